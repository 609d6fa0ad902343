-- The radicand of a positive f32: its range, and that it has at most 24 digits before its zeros.
use mathlib.Core.Path.{ap, ◌∙◌}
use mathlib.Core.Bool.{true, false}
use Prim.Native.Nat.{ℕ, zero, suc, ◌+◌, ◌*◌, ◌^◌, ◌≤◌, ◌<◌}
use native.Mathlib.Nat.{le_trans, one-mul, mul_assoc, mul_right_comm, mul-pos, zero-lt-suc}
use native.Mathlib.Nat.{mul-le-mul_right, mul-lt-mul_of_pos_right, div-lt_iff_lt-mul}
use lib.Dec.{T, lit≤}
use lib.Pow.{pow-add, pow_mono, pow_pos}
use lib.Ieee.{Float, nan, inf, fin, binary32, up, down, fits}
use lib.Ieee.Fits.{down_pos}
use lib.Ieee.Positive.{positive, positive-finite}
use Rattle.float.specs.Units.{in_units}
use Rattle.root.specs.Radicand.{radicand}
use Rattle.float.proofs.Units.{Representable, representable, in_units_lem, units_are}

units_range : (x : Float) → T (fits binary32 x) → T (positive x) → (0 < in_units x) × (in_units x < 2 ^ 277)
units_range nan f p = absurd p
units_range (inf s) f p = absurd p
units_range (fin true m e) f p = absurd p
units_range (fin false zero e) f p = absurd p
units_range (fin false (suc m) e) f p =
    let u = in_units_lem false (suc m) e f in
    let some : 0 < suc m * 2 ^ u.places = mul-pos (zero-lt-suc m) (pow_pos u.places) in
    let under : suc m * up e * 2 ^ 149 < 2 ^ 277 * down e =
    rw (← mul_right_comm (2 ^ 128) (down e) (2 ^ 149)) (mul-lt-mul_of_pos_right u.small (pow_pos 149)) in
    (rw (units_are false (suc m) e u) some, (div-lt_iff_lt-mul (down_pos e)).1 under)

module _ (x : Float) (f : T (fits binary32 x)) (p : T (positive x)) where
  pub radicand_low : 2 ^ 46 ≤ radicand x
  radicand_low =
      let units : 1 * 2 ^ 149 ≤ radicand x = mul-le-mul_right (2 ^ 149) (units_range x f p).0 in
      le_trans (pow_mono {i = 46} {j = 149} (lit≤ tt)) (rw (one-mul (2 ^ 149)) at units)

  pub radicand_high : radicand x < 2 ^ 426
  radicand_high = mul-lt-mul_of_pos_right (units_range x f p).1 (pow_pos 149)

  pub radicand_representable : Representable (radicand x)
  radicand_representable =
      let r = representable x f (positive-finite x p) in
      record {
        digits = r.digits;
        places = r.places + 149;
        few = r.few;
        value =
            ap (λ (y : ℕ). y * 2 ^ 149) r.value
            ∙ rw (pow-add 2 r.places 149) (mul_assoc r.digits (2 ^ r.places) (2 ^ 149));
      }
