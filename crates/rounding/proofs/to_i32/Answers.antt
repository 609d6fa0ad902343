use Rattle.std.proofs.Common.{ℕ, ◌^◌, ◌-◌, min, neg_ℤ, pos, ap, ◌∙◌, arith, w32}
use mir.ValLaws.{to_z_pos}
use Rattle.std.specs.Float.Ieee.{of_bits}
use Rattle.rounding.proofs.Sizes.{Negative, negative, signed_narrow, signed_narrow_neg}
use Rattle.rounding.proofs.to_i32.Goals as goal
use Rattle.rounding.proofs.to_i32.Goals.{After-min-size}

-- a size held at 2 ^ 31
size : (c : After-min-size) → Negative c.min-size.result
size c = negative (omega (arith, c.min-size.ensures))

pub overflow_sub-result : goal.overflow_sub-result
overflow_sub-result c = (size c).wide

pub overflow_cast-result : goal.overflow_cast-result
overflow_cast-result c = (size c).narrow

pub returns-then-x : goal.returns-then-x
unfolding of_bits
returns-then-x c =
    (size (goal.at.returns-then-x c).After-min-size).is
    ∙ ap (λ (n : ℕ). neg_ℤ (pos n)) c.min-size.ensures
    ∙ ap (λ (n : ℕ). neg_ℤ (pos (min n (2 ^ 31)))) c.to_usize.ensures
    ∙ signed_narrow_neg c.args.x c.if-x.true

pub returns-else-x : goal.returns-else-x
unfolding of_bits
returns-else-x c =
    to_z_pos w32 c.min.result (omega (arith, c.min.ensures)) ∙ ap pos c.min.ensures
    ∙ ap (λ (n : ℕ). pos (min n (2 ^ 31 - 1))) c.to_usize-else-x.ensures
    ∙ signed_narrow c.args.x c.if-x.false
