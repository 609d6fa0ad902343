-- The code's test of a coordinate is the definition's: both say whether x is finite and at most 2 ^ 20 in size.
use mathlib.Core.Path.{◌≡◌, refl, sym, ap, ◌∙◌, subst}
use mathlib.Core.Logic.{inl, inr}
use mathlib.Core.Bool.{true, false, not, ◌&&◌, ◌||◌}
use Prim.Native.Nat.{ℕ, ◌*◌, ◌^◌, ◌<◌}
use native.Mathlib.Nat.{le_of_lt, lt_irrefl, mul-one, mul_right_comm, mul-le-mul_right, mul-lt-mul_of_pos_right}
use native.Mathlib.Omega.{arith}
use lib.Dec.{ltb, eqb}
use lib.Pow.{pow_pos}
use lib.IntN.{pos}
use lib.Ieee.{Float, nan, inf, fin, binary32, up, down, le, fits}
use lib.Ieee.Fits.{down_pos}
use borrow.Author.Tests.{lt-ltb, le-ltb, eq-eqb, ne_eqb}
use denote.Floats.{passes}
use Rattle.float.specs.Units.{in_units}
use Rattle.float.specs.Values.{abs_of}
use Rattle.tiles.specs.Answer.{bad_coordinate_of}
use Rattle.tiles.proofs.Multiples.{lt_or_ge}
use Rattle.float.proofs.Units.{in_units_lem, units_exact}

-- 2 ^ 20
abbrev pub highest : Float
highest = fin false 1 (pos 20)

-- not a ≤ b, as floats test it
not_le : (a b : ℕ) → not (ltb a b || (eqb a b && true)) ≡ ltb b a
not_le a b = elim (lt_or_ge a b) [
  | inl l ↦ simp (lt-ltb a b l, le-ltb b a (le_of_lt l))
  | inr g ↦ elim (lt_or_ge b a) [
    | inl l ↦ simp (le-ltb a b g, ne_eqb a b (λ (e : a ≡ b). lt_irrefl b (subst (λ (x : ℕ). b < x) e l)), lt-ltb b a l)
    | inr k ↦ simp (le-ltb a b g, eq-eqb a b (omega arith), le-ltb b a k)
  ]
]

-- a test with both sides multiplied
scaled : (a b k : ℕ) → 0 < k → ltb (a * k) (b * k) ≡ ltb a b
scaled a b k K = elim (lt_or_ge a b) [
  | inl l ↦ lt-ltb (a * k) (b * k) (mul-lt-mul_of_pos_right l K) ∙ sym (lt-ltb a b l)
  | inr l ↦ le-ltb (a * k) (b * k) (mul-le-mul_right k l) ∙ sym (le-ltb a b l)
]

pub test_is : (x : Float) → fits binary32 x ≡ true → not (le (abs_of x) highest) ≡ bad_coordinate_of x
unfolding le abs_of
test_is nan f = refl
test_is (inf s) f = refl
test_is (fin s m e) f =
    let a = m * up e * 1 in
    let b = 2 ^ 20 * down e in
    let X = in_units (fin s m e) in
    let p : a * 2 ^ 149 ≡ X * down e = ap (λ (x : ℕ). x * 2 ^ 149) (mul-one (m * up e)) ∙ units_exact s m e (in_units_lem s m e (passes _ f)) in
    not_le a b
    ∙ sym (scaled b a (2 ^ 149) (pow_pos 149))
    ∙ ap (λ (x : ℕ). ltb x (a * 2 ^ 149)) (mul_right_comm (2 ^ 20) (down e) (2 ^ 149))
    ∙ ap (λ (x : ℕ). ltb (2 ^ 169 * down e) x) p
    ∙ scaled (2 ^ 169) X (down e) (down_pos e)
