-- Two numbers whose exact difference is at most D: where one is at most H / 2, the other is at most D more, and where D is 0 they are equal.
use mathlib.Core.Path.{◌≡◌, refl}
use mathlib.Core.Bool.{Bool, true, false}
use Prim.Native.Nat.{ℕ, ◌+◌, ◌*◌, ◌^◌, ◌≤◌, ◌<◌}
use native.Mathlib.Nat.{mul-le-mul_right, le_of_mul-le-mul_right}
use native.Mathlib.Omega.{arith}
use borrow.Author.Tests.{eq-eqb}
use lib.Pow.{pow_pos}
use lib.Dec.{T}
use lib.Ieee.{Float, nan, inf, fin, binary32, up, down, neg, level, eq, fits}
use lib.Ieee.Fits.{down_pos}
use lib.Ieee.Scale.{finite}
use Rattle.rounded.proofs.Step.{base}
use Rattle.rounded.proofs.Apart.{sub_mul}
use Rattle.rounded.proofs.Halves.{counted, Half, half_further}
use Rattle.stroke_bound.specs.Bound.{difference_of}
use Rattle.stroke_bound.proofs.Units.{gap, difference_over}

-- x and y are finite, and their exact difference is at most D in size
abbrev pub Far : ℕ → Float → Float → Type 0
Far D nan y = ⊥
Far D (inf s) y = ⊥
Far D (fin s m e) nan = ⊥
Far D (fin s m e) (inf t) = ⊥
Far D (fin s m e) (fin t n d) = gap s (m * up e * down d) t (n * up d * down e) ≤ D * (down e * down d)

-- two f32 that differ by no more than D in units
pub far_of :
    (D : ℕ) (x y : Float) → T (fits binary32 x) → T (fits binary32 y) → T (finite x) → T (finite y) → difference_of x y ≤ D * 2 ^ 149 → Far D x y
far_of D nan y f g i j h = absurd i
far_of D (inf s) y f g i j h = absurd i
far_of D (fin s m e) nan f g i j h = absurd j
far_of D (fin s m e) (inf t) f g i j h = absurd j
far_of D (fin s m e) (fin t n d) f g i j h =
    scaled (gap s (m * up e * down d) t (n * up d * down e)) (difference_of (fin s m e) (fin t n d)) (down e * down d) (2 ^ 149) (pow_pos 149)
    (difference_over s m e t n d f g) h
  where
    scaled : (G a C U : ℕ) → 0 < U → G * U ≡ a * C → a ≤ D * U → G ≤ D * C
    scaled G a C U P e h = let k : G * U ≤ D * C * U = omega (arith, mul-le-mul_right C h) in le_of_mul-le-mul_right k P

-- both signs turned
pub far_neg : (D : ℕ) (x y : Float) → Far D x y → Far D (neg x) (neg y)
unfolding neg
far_neg D nan y h = absurd h
far_neg D (inf s) y h = absurd h
far_neg D (fin s m e) nan h = absurd h
far_neg D (fin s m e) (inf t) h = absurd h
far_neg D (fin true m e) (fin true n d) h = h
far_neg D (fin true m e) (fin false n d) h = h
far_neg D (fin false m e) (fin true n d) h = h
far_neg D (fin false m e) (fin false n d) h = h

-- ---- no difference: equal

-- sizes with signs, no gap between them
no_gap : (s : Bool) (a : ℕ) (t : Bool) (b : ℕ) → gap s a t b ≤ 0 → level s a t b ≡ true
no_gap true a true b h = rw (eq-eqb a b (omega arith)) refl
no_gap false a false b h = rw (eq-eqb a b (omega arith)) refl
no_gap true a false b h = rw (eq-eqb a b (omega arith)) (eq-eqb a 0 (omega arith))
no_gap false a true b h = rw (eq-eqb a b (omega arith)) (eq-eqb a 0 (omega arith))

pub far_none : (x y : Float) → Far 0 x y → eq x y ≡ true
unfolding eq
far_none nan y f = absurd f
far_none (inf s) y f = absurd f
far_none (fin s m e) nan f = absurd f
far_none (fin s m e) (inf t) f = absurd f
far_none (fin s m e) (fin t n d) f = no_gap s (m * up e * down d) t (n * up d * down e) (omega arith)

-- ---- x is at most H / 2, and y at most D more

-- counted from the base, they are no further apart than they are
counted_gap : (s : Bool) (a c : ℕ) (t : Bool) (b d : ℕ) → counted t b d * c ≤ counted s a c * d + gap s (a * d) t (b * c)
counted_gap true a c true b d = omega (arith, sub_mul (base * c) a d, sub_mul (base * d) b c)
counted_gap true a c false b d = omega (arith, sub_mul (base * c) a d)
counted_gap false a c true b d = omega (arith, sub_mul (base * d) b c)
counted_gap false a c false b d = omega arith

pub far_half : (D H : ℕ) (x y : Float) → Far D x y → Half H x → Half (H + D * 2) y
far_half D H nan y f h = absurd f
far_half D H (inf s) y f h = absurd f
far_half D H (fin s m e) nan f h = absurd f
far_half D H (fin s m e) (inf t) f h = absurd f
far_half D H (fin s m e) (fin t n d) f h =
    half_further (counted s (m * up e) (down e)) (down e) (counted t (n * up d) (down d)) (down d) H D (down_pos e) h
    (omega (arith, counted_gap s (m * up e) (down e) t (n * up d) (down d)))
