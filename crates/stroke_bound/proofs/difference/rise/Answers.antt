use Rattle.std.proofs.Common.{◌≡◌, ℕ, ◌+◌, ◌^◌, ◌≤◌, Bool, true, false, cond, pos, sym, ap, ◌∙◌, subst, le_trans, lit≤, arith}
use Rattle.std.specs.Prelude.{Float}
use Rattle.std.specs.Float.{binary32}
use Rattle.std.specs.Float.Ieee.{lt, of_int, fits, to_unsigned}
use denote.Floats.{passes}
use Rattle.float.specs.Rounded.{◌⊖◌}
use Rattle.float.proofs.Casts.{in_float_lem}
use Rattle.rounded.specs.Size.{Size}
use Rattle.stroke_bound.specs.Bound.{difference_of, up_to}
use Rattle.stroke_bound.proofs.Rise.{leaves, rise_small, rise_is}
use Rattle.stroke_bound.proofs.difference.rise.Goals as goal

module _ (x y : Float) (r : (Size 65536 x × Size 65536 y) × (lt y x ≡ false)) {n : ℕ} (is : n ≡ to_unsigned 64 (y ⊖ x)) where
  small : n ≤ 131072
  small = subst (λ (k : ℕ). k ≤ 131072) (sym is) (rise_small x y r.0.0 r.0.1 r.1)

  -- proofs/Rise.antt says what the tests tell
  meets :
      (u : Bool) →
      fits binary32 x ≡ true →
      fits binary32 y ≡ true →
      leaves x y (of_int binary32 (pos n)) ≡ u →
      cond u (n + 1) n ≡ up_to (2 ^ 149) (difference_of x y)
  meets u f g h =
      sym (ap (λ (z : Bool). cond z (n + 1) n) h)
      ∙ subst (λ (k : ℕ). cond (leaves x y (of_int binary32 (pos k))) (k + 1) k ≡ up_to (2 ^ 149) (difference_of x y)) (sym is)
      (rise_is x y (passes _ f) (passes _ g) r.0.0 r.0.1 r.1)

pub int_to_float-whole : goal.int_to_float-whole
int_to_float-whole c = in_float_lem _ (le_trans (small c.args.range.low c.args.range.high c.requires c.to_usize-n.ensures) (lit≤ tt))

pub overflow_add-result : goal.overflow_add-result
overflow_add-result c = omega (arith, small c.args.range.low c.args.range.high c.requires c.to_usize-n.ensures)

pub returns-then-is_one_less : goal.returns-then-is_one_less
returns-then-is_one_less c = (
  meets c.args.range.low c.args.range.high c.requires c.to_usize-n.ensures true c.well_formed.0.1.1.0.1 c.well_formed.0.1.1.1.0.1 c.if-is_one_less.true,
  omega (arith, small c.args.range.low c.args.range.high c.requires c.to_usize-n.ensures),
)

pub returns : goal.returns
returns c = (
  meets c.args.range.low c.args.range.high c.requires c.to_usize-n.ensures false c.well_formed.0.1.1.0.1 c.well_formed.0.1.1.1.0.1 c.if-is_one_less.false,
  omega (arith, small c.args.range.low c.args.range.high c.requires c.to_usize-n.ensures),
)
