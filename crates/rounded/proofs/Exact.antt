-- Sums, differences, products and quotients in which nothing is rounded: with a zero, with one, and of a number and itself. A sum is the same in
-- either order.
use mathlib.Core.Path.{◌≡◌, refl, sym, ap, ◌∙◌}
use mathlib.Core.Bool.{Bool, true, false, not, ◌&&◌, cond}
use Prim.Native.Nat.{ℕ, zero, suc, ◌-◌, ◌*◌, ◌<◌}
use native.Mathlib.Nat.{add_comm, add-zero, mul-one, one-mul, zero-mul, mul-pos, mul_comm, sub-zero, zero-lt-suc, le_refl}
use native.Mathlib.Omega.{arith}
use borrow.Author.Tests.{ltb-true, ltb-false, lt-ltb, le-ltb}
use lib.IntN.{ℤ, pos}
use lib.Dec.{T, ltb}
use lib.Ieee.{Float, nan, inf, fin, binary32, unlike, up, down, round, neg, sum, add, sub, mul, eq, fits, of_bits}
use lib.Ieee.Fits.{down_pos, up_pos}
use Rattle.float.specs.Rounded.{◌⊕◌, ◌⊖◌, ◌⊗◌, ◌⊘◌, +0, one}
use Rattle.float.proofs.Sign.{no_size}
use Rattle.rounded.specs.Size.{Size}
use Rattle.rounded.proofs.Round.{signed_zero, round_zero}
use Rattle.rounded.proofs.Down.{exact}
use Rattle.rounded.proofs.Slopes.{quot_unit}
use Rattle.rounded.proofs.Order.{value_level, quotient, sign_moved}

-- ---- a sum in either order

opposite :
    (a b c : ℕ) (v w : Bool) → ltb a b ≡ v → ltb b a ≡ w →
    cond v (round binary32 true (b - a) c) (round binary32 false (a - b) c) ≡ cond w (round binary32 false (a - b) c) (round binary32 (true && v) (b - a) c)
opposite a b c true true h k = absurd (let z : ⊥ = omega (arith, ltb-true a b h, ltb-true b a k) in z)
opposite a b c true false h k = refl
opposite a b c false true h k = refl
opposite a b c false false h k =
    let e : a - b ≡ b - a = omega (arith, ltb-false a b h, ltb-false b a k) in ap (λ (z : ℕ). round binary32 false z c) e

sum_turned : (s : Bool) (a : ℕ) (t : Bool) (b c : ℕ) → sum binary32 s a t b c ≡ sum binary32 t b s a c
unfolding sum
sum_turned true a true b c = ap (λ (z : ℕ). round binary32 true z c) (add_comm a b)
sum_turned false a false b c = ap (λ (z : ℕ). round binary32 false z c) (add_comm a b)
sum_turned false a true b c = opposite a b c (ltb a b) (ltb b a) refl refl
sum_turned true a false b c = sym (opposite b a c (ltb b a) (ltb a b) refl refl)

pub add_turned : (x y : Float) → x ⊕ y ≡ y ⊕ x
unfolding add
add_turned nan nan = refl
add_turned nan (inf t) = refl
add_turned nan (fin t n d) = refl
add_turned (inf s) nan = refl
add_turned (inf true) (inf true) = refl
add_turned (inf true) (inf false) = refl
add_turned (inf false) (inf true) = refl
add_turned (inf false) (inf false) = refl
add_turned (inf s) (fin t n d) = refl
add_turned (fin s m e) nan = refl
add_turned (fin s m e) (inf t) = refl
add_turned (fin s m e) (fin t n d) =
    sum_turned s (m * up e * down d) t (n * up d * down e) (down e * down d)
    ∙ ap (sum binary32 t (n * up d * down e) s (m * up e * down d)) (mul_comm (down e) (down d))

-- ---- with a zero

sum_some : (s : Bool) (a : ℕ) (w : Bool) (c : ℕ) → 0 < a → sum binary32 s a w 0 c ≡ round binary32 s a c
unfolding sum
sum_some true a true c h = ap (λ (z : ℕ). round binary32 true z c) (add-zero a)
sum_some false a false c h = ap (λ (z : ℕ). round binary32 false z c) (add-zero a)
sum_some true a false c h = rw (le-ltb a 0 (omega arith), lt-ltb 0 a h, sub-zero a)
sum_some false a true c h = rw (le-ltb a 0 (omega arith), sub-zero a)

zeros : (s w : Bool) → eq (signed_zero s ⊕ signed_zero w) (signed_zero s) ≡ true
unfolding add sum round eq
zeros true true = refl
zeros true false = refl
zeros false true = refl
zeros false false = refl

-- a zero added to a number of at most 2 ^ 23 in size
pub plus_zero : (x : Float) (w : Bool) → T (fits binary32 x) → Size 8388608 x → eq (x ⊕ signed_zero w) x ≡ true
unfolding add
plus_zero nan w f h = absurd h
plus_zero (inf s) w f h = absurd h
plus_zero (fin s zero e) w f h = rw (no_size s zero e f (zero-mul (up e))).1 (zeros s w)
plus_zero (fin s (suc m) e) w f h =
    let a = suc m * up e in
    simp (mul-one, zero-mul)
    (ap (λ (z : Float). eq z (fin s (suc m) e)) (sum_some s a w (down e) (mul-pos (zero-lt-suc m) (up_pos e)))
    ∙ value_level (round binary32 s a (down e)) (fin s (suc m) e) s a (down e) (down_pos e) (exact s s (suc m) e a f h (le_refl a)) (refl, refl))

-- a zero times a finite number
pub times_zero : (s : Bool) (k : ℕ) (y : Float) → Size k y → (t : Bool) × (signed_zero s ⊗ y ≡ signed_zero t)
unfolding mul
times_zero s k nan h = absurd h
times_zero s k (inf t) h = absurd h
times_zero s k (fin t n d) h = (unlike s t, simp (zero-mul, one-mul) (round_zero (unlike s t) (down d) (down_pos d)))

zero_above : (s : Bool) (n : ℕ) (d : ℤ) → 0 < n → signed_zero s ⊘ fin false n d ≡ signed_zero s
zero_above s n d N = quotient s 0 (pos 0) n d N ∙ simp (zero-mul, mul-one) (round_zero s (n * up d) (mul-pos N (up_pos d)))

-- +0 over a number that is not zero
pub zero_over : (t : Bool) (n : ℕ) (d : ℤ) → 0 < n → +0 ⊘ fin t n d ≡ signed_zero t
unfolding of_bits neg
zero_over false n d N = zero_above false n d N
zero_over true n d N = sign_moved (signed_zero false) n d ∙ zero_above true n d N

-- one less a zero
pub one_less_zero : (s : Bool) → one ⊖ signed_zero s ≡ one
unfolding sub add sum neg round of_bits
one_less_zero true = refl
one_less_zero false = refl

-- ---- with one, and with itself

unlike_false : (s : Bool) → unlike false s ≡ s
unlike_false true = refl
unlike_false false = refl

pub times_one : (x : Float) → T (fits binary32 x) → Size 8388608 x → eq (one ⊗ x) x ≡ true
unfolding mul of_bits
times_one nan f h = absurd h
times_one (inf s) f h = absurd h
times_one (fin s m e) f h =
    simp (one-mul, unlike_false)
    (value_level (round binary32 s (m * up e) (down e)) (fin s m e) s (m * up e) (down e) (down_pos e) (exact s s m e (m * up e) f h (le_refl (m * up e))) (refl, refl))

pub sub_itself : (k : ℕ) (x : Float) → Size k x → x ⊖ x ≡ +0
unfolding sub add sum neg of_bits
sub_itself k nan h = absurd h
sub_itself k (inf s) h = absurd h
sub_itself k (fin s m e) h = go s
  where
    A : ℕ
    A = m * up e * down e

    C : ℕ
    C = down e * down e

    none : A - A ≡ 0
    none = omega arith

    go : (s : Bool) → sum binary32 s A (not s) A C ≡ +0
    go true = rw (le-ltb A A (omega arith), none) (round_zero false C (mul-pos (down_pos e) (down_pos e)))
    go false = rw (le-ltb A A (omega arith), none) (round_zero false C (mul-pos (down_pos e) (down_pos e)))

pub over_itself : (t : Bool) (n : ℕ) (d : ℤ) → 0 < n → fin t n d ⊘ fin t n d ≡ one
unfolding of_bits neg
over_itself false n d N = quot_unit false n d N
over_itself true n d N = sign_moved (fin true n d) n d ∙ quot_unit false n d N
