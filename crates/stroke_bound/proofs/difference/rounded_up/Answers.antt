use Rattle.std.proofs.Common.{ℕ, ◌^◌, ap, ◌∙◌}
use Rattle.float.proofs.Order.{lt_one_way}
use Rattle.stroke_bound.specs.Bound.{up_to}
use Rattle.stroke_bound.proofs.Rise.{difference_back}
use Rattle.stroke_bound.proofs.difference.rounded_up.Goals as goal

-- the difference is the same from either side
pub rise-requires : goal.rise-requires
rise-requires c = ((c.requires.1, c.requires.0), lt_one_way c.args.y c.args.x c.if-y-x.true)

pub returns-then-y-x : goal.returns-then-y-x
returns-then-y-x c = (
  c.rise.ensures.0 ∙ ap (λ (z : ℕ). up_to (2 ^ 149) z) (difference_back 65536 65536 c.args.x c.args.y c.requires.0 c.requires.1),
  c.rise.ensures.1,
)
