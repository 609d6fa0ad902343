-- The theorem behind the count of `sqrt_digits`: an exact root is whole, is returned as it is, and counts its digits up to the last 1, 12 at
-- most; any other counts 24.
use mathlib.Core.Path.{◌≡◌, refl, sym, ap, ◌∙◌}
use mathlib.Core.Bool.{Bool, true, false, cond}
use Prim.Native.Nat.{ℕ, zero, suc, ◌*◌, ◌<◌}
use native.Mathlib.Nat.{lt_of_lt_of_le, zero-lt-suc, mul-one}
use native.Mathlib.Omega.{arith}
use lib.Dec.{T}
use lib.Pow.{pow_pos}
use lib.Ieee.{Float, binary32, fits}
use lib.Ieee.Positive.{positive}
use denote.Floats.{passes}
use Rattle.float.specs.Units.{in_units}
use Rattle.root.specs.Radicand.{radicand}
use Rattle.root.specs.Root.{sqrt_of}
use Rattle.root.specs.Digits.{digits_of, sqrt_digits_of, HasDigits, ExactRoot, DigitsWorked}
use Rattle.root.specs.Steps.{Worked}
use Rattle.root.proofs.Fraction.{fraction_whole}
use Rattle.root.proofs.Closest.{nearest_one, exact_nearer}
use Rattle.root.proofs.LastOne.{exact_few, exact_representable}
use Rattle.root.proofs.Radicand.{radicand_low, radicand_representable}
use Rattle.root.proofs.Result.{result_units, result_nearer}
use Rattle.root.proofs.Units.{positive_root}
use Rattle.root.proofs.Worked.{worked_value}

some : {n : ℕ} (w : ℕ) → 0 < n → w * w ≡ n → 0 < w
some zero low e = omega arith
some (suc w) low e = zero-lt-suc w

-- √x is w units, and so is `sqrt_of x`
exact_root : {w : ℕ} (x : Float) → T (fits binary32 x) → T (positive x) → w * w ≡ radicand x → in_units (sqrt_of x) ≡ w
exact_root {w} x f p e =
    let low = radicand_low x f p in
    let short = radicand_representable x f p in
    let root = exact_representable short (some w (lt_of_lt_of_le (pow_pos 46) low) e) e in
    rw (positive_root x p, result_units (radicand x)) (nearest_one (result_nearer low short root) (exact_nearer _ e))

-- the contract, of `sqrt_of x` with a count that is `Worked`
module _ {r : Float} {d : ℕ} (x : Float) (f : T (fits binary32 x)) (is : r ≡ sqrt_of x)
    (worked : T (positive x) → Worked (radicand x) (in_units r) d) (none : positive x ≡ false → d ≡ 0) where
  counted : d ≡ sqrt_digits_of x
  unfolding sqrt_digits_of
  counted = go (positive x) refl
    where
      go : (above : Bool) → positive x ≡ above → d ≡ cond above (digits_of (radicand x) (in_units (sqrt_of x))) 0
      go true e = sym (rw (← is) (worked_value (worked (passes _ e))))
      go false e = none e

  root : T (positive x) → (p q : ℕ) → ExactRoot x p q → (in_units r * in_units r ≡ radicand x) × (in_units r * q ≡ p)
  root above p q e =
      let whole = fraction_whole e.0 e.1 in
      let same : in_units r ≡ whole.0 = ap in_units is ∙ exact_root x f above whole.1 in
      rw same (whole.1, whole.2)

  exact : T (positive x) → (p q : ℕ) → ExactRoot x p q → HasDigits (in_units r) d
  exact above p q e = (worked above).exact (root above p q e).0

  inexact : T (positive x) → ((p q : ℕ) → ExactRoot x p q → ⊥) → d ≡ 24
  inexact above irrational = (worked above).inexact (λ e. irrational (in_units r) 1 (zero-lt-suc 0, e ∙ sym (mul-one (radicand x))))

  pub digits_worked : DigitsWorked x r d
  digits_worked = record {
    answers = counted;
    returned = λ above p q e. (root above p q e).1;
    exact = exact;
    few = λ above p q e. exact_few (radicand_representable x f above) (root above p q e).0 (exact above p q e);
    inexact = inexact;
    none = none;
  }
