-- The rounded root is monotone: a root that is below another is the root of a smaller number.
use mathlib.Core.Path.{◌≡◌, refl, sym, ap, ◌∙◌}
use mathlib.Core.Bool.{Bool, true, false, not, true≢false}
use Prim.Native.Nat.{ℕ, zero, suc, ◌+◌, ◌*◌, ◌^◌, ◌<◌}
use native.Mathlib.Nat.{add_comm, lt_of_mul-lt-mul_right, zero-mul, zero-lt-suc, mul-pos}
use native.Mathlib.Omega.{arith}
use borrow.Author.Tests.{ltb-true, lt-ltb, le-ltb}
use lib.IntN.{ℤ}
use lib.Dec.{T, ltb, ltb→lt, lt→ltb}
use lib.Ieee.{Float, nan, inf, fin, binary32, up, down, lt, fits, is_nan}
use lib.Ieee.Fits.{up_pos, down_pos}
use lib.Ieee.Positive.{positive, positive-finite}
use Rattle.float.specs.Units.{in_units}
use Rattle.float.proofs.Laws.{above_number, below_number}
use Rattle.float.proofs.Units.{in_units_lem, lt_units}
use Rattle.root.specs.Radicand.{radicand}
use Rattle.root.specs.Root.{sqrt_of}
use Rattle.root.proofs.Special.{sqrt_of_nan, sqrt_of_infinity, sqrt_of_minus_infinity, sqrt_of_negative}
use Rattle.root.proofs.Nearest.{sqrt_is_nearest}

-- ---- of two positive floats

positive_lt : (x y : Float) → T (fits binary32 x) → T (fits binary32 y) → T (positive x) → T (positive y)
    → lt x y ≡ ltb (in_units x) (in_units y)
positive_lt (fin false m e) (fin false n d) f g p q = lt_units m e n d (in_units_lem false m e f) (in_units_lem false n d g)
positive_lt (fin false m e) nan f g p q = absurd q
positive_lt (fin false m e) (inf t) f g p q = absurd q
positive_lt (fin false m e) (fin true n d) f g p q = absurd q
positive_lt nan y f g p q = absurd p
positive_lt (inf s) y f g p q = absurd p
positive_lt (fin true m e) y f g p q = absurd p

squares : (m n s r : ℕ) → 4 * m < (s + r) * (s + r) → (r + s) * (r + s) < 4 * n → m < n
squares m n s r h k = omega (arith, rw (add_comm s r) at h)

-- where √y rounds to less than √x does, the point halfway between the two results lies between √y and √x
between : (x y : Float) → T (fits binary32 x) → T (fits binary32 y) → T (positive x) → T (positive y)
    → lt (sqrt_of y) (sqrt_of x) ≡ true → lt y x ≡ true
between x y f g p q h =
    let a = sqrt_is_nearest x f p in
    let b = sqrt_is_nearest y g q in
    let less : in_units (sqrt_of y) < in_units (sqrt_of x) =
    ltb-true _ _ (sym (positive_lt (sqrt_of y) (sqrt_of x) b.held a.held b.positive a.positive) ∙ h) in
    let over = (a.nearer (sqrt_of y) b.held (positive-finite (sqrt_of y) b.positive)).below less in
    let under = (b.nearer (sqrt_of x) a.held (positive-finite (sqrt_of x) a.positive)).above less in
    let radicands = squares (radicand y) (radicand x) (in_units (sqrt_of y)) (in_units (sqrt_of x)) under over in
    positive_lt y x g f q p ∙ lt-ltb _ _ (lt_of_mul-lt-mul_right (2 ^ 149) radicands)

-- ---- the other floats: a zero and +infinity are their own roots, and the rest have none

-- x is below every positive float, or else above
abbrev Beside : Float → Bool → Type 0
Beside x under = (p : Float) → T (positive p) → (lt x p ≡ under) × (lt p x ≡ not under)

zero_under : (s : Bool) (e : ℤ) → Beside (fin s 0 e) true
unfolding lt
zero_under s e nan i = absurd i
zero_under s e (inf t) i = absurd i
zero_under s e (fin true m d) i = absurd i
zero_under s e (fin false m d) i = sides s
  where
    size : ℕ
    size = m * up d * down e

    some : 0 < size
    some = mul-pos (mul-pos (ltb→lt 0 m i) (up_pos d)) (down_pos e)

    no : 0 * up e * down d ≡ 0
    no = simp zero-mul

    sides : (s : Bool) → (lt (fin s 0 e) (fin false m d) ≡ true) × (lt (fin false m d) (fin s 0 e) ≡ false)
    sides true = (lt-ltb 0 (0 * up e * down d + size) (omega (arith, no, some)), refl)
    sides false = (lt-ltb (0 * up e * down d) size (omega (arith, no, some)), le-ltb size (0 * up e * down d) (omega (arith, no)))

infinity_over : Beside (inf false) false
unfolding lt
infinity_over nan i = absurd i
infinity_over (inf t) i = absurd i
infinity_over (fin s m d) i = (refl, refl)

data Root (x : Float) : Type 0 where
  none : sqrt_of x ≡ nan → Root x
  own : (under : Bool) → sqrt_of x ≡ x → Beside x under → Root x
  some : T (positive x) → Root x

root : (x : Float) → Root x
root nan = none sqrt_of_nan
root (inf true) = none sqrt_of_minus_infinity
root (inf false) = own false sqrt_of_infinity infinity_over
root (fin s zero e) = own true (unfold sqrt_of in refl) (zero_under s e)
root (fin true (suc m) e) = none (sqrt_of_negative m e)
root (fin false (suc m) e) = some (lt→ltb 0 (suc m) (zero-lt-suc m))

pub sqrt_monotone : (x y : Float) → T (fits binary32 x) → T (fits binary32 y) → lt (sqrt_of y) (sqrt_of x) ≡ true → lt y x ≡ true
sqrt_monotone x y f g h = go (root x) (root y)
  where
    no_root : (v : Float) → v ≡ nan → is_nan v ≡ false → ⊥
    no_root v is h = true≢false (unfold is_nan in (sym (ap is_nan is) ∙ h))

    go : Root x → Root y → lt y x ≡ true
    go (none i) r = absurd (no_root (sqrt_of x) i (above_number (sqrt_of y) (sqrt_of x) h))
    go (own u i a) (none j) = absurd (no_root (sqrt_of y) j (below_number (sqrt_of y) (sqrt_of x) h))
    go (own u i a) (own v j b) = rw i at (rw j at h)
    go (own u i a) (some j) = (a y j).1 ∙ sym (a (sqrt_of y) (sqrt_is_nearest y g j).positive).1 ∙ rw i at h
    go (some i) (none j) = absurd (no_root (sqrt_of y) j (below_number (sqrt_of y) (sqrt_of x) h))
    go (some i) (own v j b) = (b x i).0 ∙ sym (b (sqrt_of x) (sqrt_is_nearest x f i).positive).0 ∙ rw j at h
    go (some i) (some j) = between x y f g i j h
