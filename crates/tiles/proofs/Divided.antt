-- A finite f32 divided by a whole number s and rounded has the value that proofs/Quotient.antt speaks of.
use mathlib.Core.Path.{◌≡◌, sym, ap, ◌∙◌, subst}
use mathlib.Core.Logic.{inl, inr}
use mathlib.Core.Bool.{Bool, true, false, true≢false}
use Prim.Native.Nat.{ℕ, zero, suc, ◌-◌, ◌*◌, ◌/◌, ◌%◌, ◌^◌, ◌≤◌, ◌<◌, compare}
use native.Mathlib.Nat.{le_trans, le_of_eq, lt_of_le_of_lt, lt_of_not-le, not-le_of_lt, lt_irrefl, zero-lt-suc, le_of_suc-le-suc}
use native.Mathlib.Nat.{mul-one, mul_comm, mul_assoc, mul_left_comm, mul_right_comm, mul-pos, zero-mul, le-mul_of_pos_right, div-lt_iff_lt-mul, sub-eq-zero_of_le}
use lib.Dec.{T, lit≤, lit<, eqb-suc-zero}
use lib.Pow.{pow_pos}
use lib.IntN.{ℤ, pos}
use lib.Ieee.{Float, nan, inf, fin, binary32, up, down, size, round, div, of_int, fits}
use lib.Ieee.Back.{round_whole}
use lib.Ieee.Digits.{size-le}
use lib.Ieee.Exact.{HasValue, units_val}
use lib.Ieee.Fits.{down_pos, up_pos, round_is, nearest-le}
use lib.Ieee.Nearest.{closest, closest_same, div_same}
use lib.Ieee.Order.{drop, kept}
use lib.Ieee.Scale.{round_same, grid}
use Rattle.float.specs.Rounded.{◌⊘◌}
use Rattle.float.specs.Units.{in_units}
use Rattle.float.proofs.Negated.{unlike_plus}
use Rattle.tiles.proofs.Multiples.{lt_or_ge}
use Rattle.tiles.proofs.Quotient.{rounded, drops, agree}
use Rattle.float.proofs.Units.{in_units_lem, units_are, units_exact}
use Rattle.tiles.proofs.Accepted.{Taken}

-- ---- `round` by its value

-- equal fractions are rounded alike
same_grid : (p a b c d : ℕ) → 0 < b → 0 < d → a * d ≡ c * b → kept p a b * 2 ^ drop p a b ≡ kept p c d * 2 ^ drop p c d
same_grid p a b c d B D e =
    let k : drop p a b ≡ drop p c d = ap (λ (z : ℕ). size z - p) (div_same a b c d B D e) in
    let j = drop p c d in
    let f : a * (d * 2 ^ j) ≡ c * (b * 2 ^ j) = sym (mul_assoc a d (2 ^ j)) ∙ ap (λ (z : ℕ). z * 2 ^ j) e ∙ mul_assoc c b (2 ^ j) in
    ap (λ (z : ℕ). closest a (b * 2 ^ z) * 2 ^ z) k
    ∙ ap (λ (z : ℕ). z * 2 ^ j) (closest_same a (b * 2 ^ j) c (d * 2 ^ j) (mul-pos B (pow_pos j)) (mul-pos D (pow_pos j)) f)

round_value : (s : Bool) (a c : ℕ) → grid binary32 a c < 2 ^ 277 → HasValue (round binary32 s a c) s (grid binary32 a c) (2 ^ 149)
round_value s a c h = rw round_is (units_val binary32 s (kept 24 (a * 2 ^ 149) c) (drop 24 (a * 2 ^ 149) c) h)

-- ---- the quotient by an f32 that is s

div_is : (a : Bool) (m : ℕ) (e : ℤ) (y : Float) (s : ℕ) → 0 < s → HasValue y false s 1 → fin a m e ⊘ y ≡ round binary32 a (m * up e) (s * down e)
unfolding div
div_is a m e nan s S v = absurd v
div_is a m e (inf t) s S v = absurd v
div_is a m e (fin true n d) s S v = absurd (true≢false v.0)
div_is a m e (fin false zero d) s S v =
    let z : s * down d ≡ 0 = sym v.1 ∙ ap (λ (x : ℕ). x * 1) (zero-mul (up d)) in
    absurd (lt_irrefl 0 (subst (λ (x : ℕ). 0 < x) z (mul-pos S (down_pos d))))
div_is a m e (fin false (suc n) d) s S v =
    let w : suc n * up d ≡ s * down d = sym (mul-one (suc n * up d)) ∙ v.1 in
    let M = m * up e in
    let same : M * down d * (s * down e) ≡ M * (suc n * up d * down e) = cross M (down d) s (down e) ∙ ap (λ (x : ℕ). M * (x * down e)) (sym w) in
    let num_pos = mul-pos (mul-pos (zero-lt-suc n) (up_pos d)) (down_pos e) in
    rw (eqb-suc-zero n, unlike_plus a) (round_same binary32 a (M * down d) (suc n * up d * down e) M (s * down e) num_pos (mul-pos S (down_pos e)) same)
  where
    cross : (M D s E : ℕ) → M * D * (s * E) ≡ M * (s * D * E)
    cross M D s E = simp (mul_assoc, mul_comm)

-- ---- how large it is

-- at most 2 ^ 20: also where X is so small that it is rounded to a subnormal value, or to zero
rounded_le : (X s q j : ℕ) → 0 < s → q < 2 ^ 24 → X ≡ q * 2 ^ j → X ≤ 2 ^ 169 → rounded X s ≤ 2 ^ 169
rounded_le X s q j S Q e top = elim (lt_or_ge X (2 ^ 24 * s)) [
  | inl l ↦
      let w : X / s < 2 ^ 24 = (div-lt_iff_lt-mul S).1 l in
      let z : drops X s ≡ 0 = sub-eq-zero_of_le (size-le (X / s) 24 w) in
      let r : closest X (s * 1) * 1 ≡ closest X s = simp mul-one in
      let l : closest X s ≤ 2 ^ 24 = le_trans (nearest-le (X / s) (compare (X % s * 2) s)) w in
      subst (λ (k : ℕ). closest X (s * 2 ^ k) * 2 ^ k ≤ 2 ^ 169) (sym z) (le_trans (le_of_eq r) (le_trans l (lit≤ tt)))
  | inr l ↦
      let m : 2 ^ 169 * s ≡ 2 ^ 20 * (s * 2 ^ 149) = mul_comm (2 ^ 169) s ∙ mul_left_comm s (2 ^ 20) (2 ^ 149) in
      let h : X ≤ 2 ^ 20 * (s * 2 ^ 149) = le_trans top (le_trans (le-mul_of_pos_right (2 ^ 169) S) (le_of_eq m)) in
      le_of_suc-le-suc (lt_of_not-le (λ (g : 2 ^ 169 < rounded X s). not-le_of_lt (((agree X s q j S Q e top l).lt_iff (2 ^ 20)).1 g) h))
]

-- so many units as the rounded quotient of x's, with x's sign
pub quotient_value : (b : Bool) (m : ℕ) (e : ℤ) (s : ℕ) → T (fits binary32 (fin b m e)) → in_units (fin b m e) ≤ 2 ^ 169 → 0 < s → s ≤ 4096
    → HasValue (fin b m e ⊘ of_int binary32 (pos s)) b (rounded (in_units (fin b m e)) s) (2 ^ 149) × (rounded (in_units (fin b m e)) s ≤ 2 ^ 169)
unfolding of_int
quotient_value b m e s t top S C =
    let X = in_units (fin b m e) in
    let u = in_units_lem b m e t in
    let r : rounded X s ≤ 2 ^ 169 = rounded_le X s m u.places S u.few (units_are b m e u) top in
    let c : m * up e * 2 ^ 149 * s ≡ X * (s * down e) = ap (λ (x : ℕ). x * s) (units_exact b m e u) ∙ mul_right_comm X (down e) s ∙ mul_assoc X s (down e) in
    let g : grid binary32 (m * up e) (s * down e) ≡ rounded X s = same_grid 24 (m * up e * 2 ^ 149) (s * down e) X s (mul-pos S (down_pos e)) S c in
    let d = div_is b m e (round binary32 false s 1) s S (round_whole binary32 false s (le_trans C (lit≤ tt))) in
    let v = round_value b (m * up e) (s * down e) (subst (λ (z : ℕ). z < 2 ^ 277) (sym g) (lt_of_le_of_lt r (lit< tt))) in
    (rw d (subst (λ (z : ℕ). HasValue (round binary32 b (m * up e) (s * down e)) b z (2 ^ 149)) g v), r)

-- a value of G units, at most 2 ^ 20 in size
pub record Small (q : Float) : Type 0 where
  pub sign : Bool
  pub G : ℕ
  pub value : HasValue q sign G (2 ^ 149)
  pub top : G ≤ 2 ^ 169

pub part_le : (G : ℕ) → G ≤ 2 ^ 169 → G / 2 ^ 149 ≤ 1048576
part_le G h = le_of_suc-le-suc ((div-lt_iff_lt-mul (pow_pos 149)).1 (lt_of_le_of_lt h (lit< tt)))

pub small_quotient : (x : Float) (s : ℕ) → Taken x → 0 < s → s ≤ 4096 → Small (x ⊘ of_int binary32 (pos s))
small_quotient nan s t S C = absurd t.0.1
small_quotient (inf b) s t S C = absurd t.0.1
small_quotient (fin b m e) s t S C =
    let v = quotient_value b m e s t.0.0 t.1 S C in
    record { sign = b; G = rounded (in_units (fin b m e)) s; value = v.0; top = v.1 }
