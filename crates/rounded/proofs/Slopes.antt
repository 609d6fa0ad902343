-- Two differences over the larger of their sizes: both quotients are at most one in size, and one of them is 1 or -1.
use mathlib.Core.Path.{◌≡◌, refl, ap, ◌∙◌}
use mathlib.Core.Bool.{Bool, true, false, cond}
use mathlib.Core.Logic.{◌⊎◌, inl, inr}
use Prim.Native.Nat.{ℕ, zero, suc, ◌*◌, ◌≤◌, ◌<◌}
use native.Mathlib.Nat.{lt_of_lt_of_le, zero-lt-suc, mul-one, one-mul, zero-mul, mul-pos}
use native.Mathlib.Omega.{arith}
use borrow.Author.Tests.{ltb-true, ltb-false, ne_eqb}
use lib.IntN.{ℤ}
use lib.Dec.{ltb, eqb, lit≤}
use lib.Ieee.{Float, nan, inf, fin, binary32, up, down, round, div, lt, is_nan, unlike}
use lib.Ieee.Fits.{down_pos, up_pos}
use lib.Ieee.Scale.{round_same}
use Rattle.float.specs.Rounded.{◌⊘◌}
use Rattle.float.specs.Values.{abs_of, max_of}
use Rattle.float.proofs.Negated.{unlike_plus}
use Rattle.rounded.proofs.Sizes.{round_size}
use Rattle.rounded.specs.Size.{Size}
use Rattle.rounded.proofs.Step.{unit}
use Rattle.rounded.proofs.Apart.{NonZero}

-- ---- a quotient by the larger of two

quot_size : (s : Bool) (m : ℕ) (e : ℤ) (n : ℕ) (d : ℤ) → 0 < n → m * up e * down d ≤ n * up d * down e → Size 1 (fin s m e ⊘ fin false n d)
unfolding div
quot_size s m e n d p h =
    let z : eqb n 0 ≡ false = ne_eqb n 0 (λ q. omega arith) in
    rw z (round_size (unlike s false) (m * up e * down d) (n * up d * down e) 1 (mul-pos (mul-pos p (up_pos d)) (down_pos e)) (omega arith) (lit≤ tt))

-- a number over its own size
pub quot_unit : (s : Bool) (m : ℕ) (e : ℤ) → 0 < m → fin s m e ⊘ fin false m e ≡ unit s
unfolding div
quot_unit s m e h =
    let A = m * up e * down e in
    let p : 0 < A = mul-pos (mul-pos h (up_pos e)) (down_pos e) in
    let z : eqb m 0 ≡ false = ne_eqb m 0 (λ q. omega arith) in
    rw z (ap (λ (t : Bool). round binary32 t A A) (unlike_plus s) ∙ round_same binary32 s A A 1 1 p (lit≤ tt) (simp (mul-one, one-mul)) ∙ one s)
  where
    one : (s : Bool) → round binary32 s 1 1 ≡ unit s
    one true = unfold round in refl
    one false = unfold round in refl

-- u and v are at most one in size, and one of them is 1 or -1
pub record Slopes (u v : Float) : Type 0 where
  pub first_size : Size 1 u
  pub second_size : Size 1 v
  pub major : ((s : Bool) × (u ≡ unit s)) ⊎ ((s : Bool) × (v ≡ unit s))

not_none : (n : ℕ) (u w : ℕ) → 0 < n * u * w → 0 < n
not_none zero u w h = absurd (omega (arith, h, ap (λ (z : ℕ). z * w) (zero-mul u), zero-mul w))
not_none (suc n) u w h = zero-lt-suc n

pub slopes :
    (dx dy : Float) (k l : ℕ) →
    Size k dx →
    Size l dy →
    NonZero dx ⊎ NonZero dy →
    Slopes (dx ⊘ max_of (abs_of dx) (abs_of dy)) (dy ⊘ max_of (abs_of dx) (abs_of dy))
unfolding abs_of max_of lt is_nan
slopes nan dy k l a b h = absurd a
slopes (inf s) dy k l a b h = absurd a
slopes (fin s m e) nan k l a b h = absurd b
slopes (fin s m e) (inf t) k l a b h = absurd b
slopes (fin s m e) (fin t n d) k l a b h = go (ltb A B) refl
  where
    A : ℕ
    A = m * up e * down d

    B : ℕ
    B = n * up d * down e

    larger : B ≤ A → NonZero (fin s m e) ⊎ NonZero (fin t n d) → 0 < m
    larger l (inl p) = p
    larger l (inr p) = not_none m (up e) (down d) (lt_of_lt_of_le (mul-pos (mul-pos p (up_pos d)) (down_pos e)) l)

    go : (u : Bool) → ltb A B ≡ u → Slopes (fin s m e ⊘ cond u (fin false n d) (fin false m e)) (fin t n d ⊘ cond u (fin false n d) (fin false m e))
    go true q =
        let r = ltb-true A B q in
        let p : 0 < n = not_none n (up d) (down e) (let z : 0 < B = omega arith in z) in
        record { first_size = quot_size s m e n d p (omega arith); second_size = quot_size t n d n d p (omega arith); major = inr (t, quot_unit t n d p) }
    go false q =
        let r = ltb-false A B q in
        let p = larger r h in
        record { first_size = quot_size s m e m e p (omega arith); second_size = quot_size t n d m e p r; major = inl (s, quot_unit s m e p) }
