-- The theorems behind the contract of `sqrt`: above zero `sqrt_of x` is the f32 nearest to √x, and no other is.
use mathlib.Core.Path.{◌≡◌, ap, ◌∙◌}
use Prim.Native.Nat.{ℕ}
use lib.Dec.{T}
use lib.Ieee.{Float, binary32, fits}
use lib.Ieee.Positive.{positive, positive-finite}
use lib.Ieee.Scale.{finite}
use Rattle.float.specs.Units.{in_units}
use Rattle.root.specs.Radicand.{radicand}
use Rattle.root.specs.Root.{nearest_root, sqrt_of}
use Rattle.root.specs.Nearest.{Nearer, IsNearest}
use Rattle.root.specs.Promise.{SquareRoot}
use Rattle.root.proofs.Closest.{nearest_one}
use Rattle.root.proofs.Units.{positive_unique, positive_root}
use Rattle.float.proofs.Units.{representable}
use Rattle.root.proofs.Radicand.{radicand_low, radicand_high, radicand_representable}
use Rattle.root.proofs.Special.{sqrt_of_nan, sqrt_of_infinity, sqrt_of_zero, sqrt_below_zero}
use Rattle.root.proofs.Result.{result_units, result_nearer, result_positive, result_fits}

pub sqrt_is_nearest : (x : Float) → T (fits binary32 x) → T (positive x) → IsNearest x (sqrt_of x)
sqrt_is_nearest x f p = rw (positive_root x p) record {
  held = result_fits n (radicand_high x f p);
  positive = result_positive n (radicand_low x f p);
  nearer = nearer;
}
  where
    n : ℕ
    n = radicand x

    nearer : (y : Float) → T (fits binary32 y) → T (finite y) → Nearer n (in_units (nearest_root n)) (in_units y)
    nearer y g h =
        rw (result_units n) (result_nearer (radicand_low x f p) (radicand_representable x f p) (representable y g h))

pub nearest_is_one : (x r s : Float) → IsNearest x r → IsNearest x s → r ≡ s
nearest_is_one x r s a b =
    let rs = a.nearer s b.held (positive-finite s b.positive) in
    let sr = b.nearer r a.held (positive-finite r a.positive) in
    let units = nearest_one rs sr in
    positive_unique r s a.held b.held a.positive b.positive units

-- the contract, for whatever is `sqrt_of x`
pub square_root : (x r : Float) → T (fits binary32 x) → r ≡ sqrt_of x → SquareRoot x r
square_root x r f is = record {
  answers = is;
  nearest = nearest;
  only = λ p q n. nearest_is_one x q r n (nearest p);
  zero = λ s e. is ∙ ap sqrt_of e ∙ sqrt_of_zero s;
  infinite = λ e. is ∙ ap sqrt_of e ∙ sqrt_of_infinity;
  negative = λ h. is ∙ sqrt_below_zero x h;
  not_a_number = λ e. is ∙ ap sqrt_of e ∙ sqrt_of_nan;
}
  where
    nearest : T (positive x) → IsNearest x r
    nearest p = rw is (sqrt_is_nearest x f p)
