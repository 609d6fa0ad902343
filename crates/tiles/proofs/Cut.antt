-- What the code's test against 0 and its cast give of a value of at most 2 ^ 20 in size: the place after its floor.
use mathlib.Core.Path.{◌≡◌, refl, sym, ap, ◌∙◌}
use mathlib.Core.Bool.{Bool, true, false}
use Prim.Native.Nat.{ℕ, zero, suc, ◌+◌, ◌-◌, ◌*◌, ◌/◌, ◌^◌, ◌≤◌, ◌<◌, min, zero-le}
use native.Mathlib.Nat.{le_trans, le_of_eq, lt_of_le_of_lt, le-add_left, zero-lt-suc, mul-one, mul-pos, zero-mul, div-lt_iff_lt-mul, eq_of_mul-eq-mul_right}
use native.Mathlib.Omega.{arith}
use lib.Dec.{T, ltb, lt→ltb, lit<}
use lib.Pow.{pow_pos}
use lib.IntN.{ℤ, pos, neg_ℤ}
use lib.Signed.{shr_z}
use lib.Ieee.{Float, nan, inf, fin, up, down, lt, to_unsigned}
use lib.Ieee.Fits.{down_pos}
use lib.Ieee.Nearest.{div_same}
use borrow.Author.Tests.{ltb-true, ltb-false}
use Rattle.float.specs.Units.{signed}
use Rattle.tiles.specs.Tiles.{floor_int, past}
use Rattle.float.proofs.Units.{units_of_value}
use Rattle.tiles.proofs.Divided.{Small, part_le}

-- 0, and the ends of what `truncating_f32_to_u64` takes
abbrev pub nought : Float
nought = fin false 0 (pos 0)

abbrev pub under : Float
under = fin true 1 (pos 0)

abbrev pub over : Float
over = fin false 1 (pos 64)

pub record Cut (q : Float) : Type 0 where
  pub below_top : T (lt q over)
  pub above_low : lt q nought ≡ false → T (lt under q)
  pub minus_past : lt q nought ≡ true → past (floor_int q) ≡ 0
  pub plus_past : lt q nought ≡ false → suc (to_unsigned 64 q) ≡ past (floor_int q)
  pub whole_le : to_unsigned 64 q ≤ 1048576

-- ---- the tests over whole numbers: of a / d against 0

not_minus : (a d : ℕ) → ltb (a * 1) (0 * d) ≡ true → ⊥
not_minus a d t = omega (arith, ltb-true (a * 1) (0 * d) t)

above_under : (a d : ℕ) → 0 < d → 0 < 1 * d + a * 1
above_under a d D = omega arith

some : (a d : ℕ) → ltb 0 (a * 1 + 0 * d) ≡ true → a ≡ 0 → ⊥
some a d t z = omega (arith, ltb-true 0 (a * 1 + 0 * d) t)

none : (a d : ℕ) → ltb 0 (a * 1 + 0 * d) ≡ false → a ≡ 0
none a d t = omega (arith, ltb-false 0 (a * 1 + 0 * d) t)

-- ---- the place after the floor of -G units

past_none : (G : ℕ) → G ≡ 0 → past (shr_z (neg_ℤ (pos G)) (2 ^ 149)) ≡ 1
past_none zero z = refl
past_none (suc G) z = omega arith

past_some : (G : ℕ) → (G ≡ 0 → ⊥) → past (shr_z (neg_ℤ (pos G)) (2 ^ 149)) ≡ 0
past_some zero s = absurd (s refl)
past_some (suc G) s = refl

module _ (m : ℕ) (e : ℤ) (G : ℕ) (v : m * up e * 2 ^ 149 ≡ G * down e) (top : G ≤ 2 ^ 169) where
  whole_part : m * up e / down e ≡ G / 2 ^ 149
  whole_part = div_same (m * up e) (down e) G (2 ^ 149) (down_pos e) (pow_pos 149) v

  floor_is : (b : Bool) → floor_int (fin b m e) ≡ shr_z (signed b G) (2 ^ 149)
  floor_is b = ap (λ (z : ℤ). shr_z z (2 ^ 149)) (units_of_value (fin b m e) b G (refl, v))

  cut_plus : Cut (fin false m e)
  unfolding lt to_unsigned
  cut_plus = record {
    below_top = lt→ltb (m * up e * 1) (2 ^ 64 * down e) below;
    above_low = λ _. lt→ltb 0 (1 * down e + m * up e * 1) (above_under (m * up e) (down e) (down_pos e));
    minus_past = λ t. absurd (not_minus (m * up e) (down e) t);
    plus_past = λ _. ap suc cast ∙ sym (ap past (floor_is false));
    whole_le = le_trans (le_of_eq cast) (part_le G top);
  }
    where
      below : m * up e * 1 < 2 ^ 64 * down e
      below = rw mul-one ((div-lt_iff_lt-mul (down_pos e)).0 (lt_of_le_of_lt (le_trans (le_of_eq whole_part) (part_le G top)) (lit< tt)))

      capped : (x : ℕ) → x ≤ 1048576 → min x (2 ^ 64 - 1) ≡ x
      capped x l = omega arith

      cast : min (m * up e / down e) (2 ^ 64 - 1) ≡ G / 2 ^ 149
      cast = ap (λ (x : ℕ). min x (2 ^ 64 - 1)) whole_part ∙ capped (G / 2 ^ 149) (part_le G top)

  cut_minus : Cut (fin true m e)
  unfolding lt to_unsigned
  cut_minus = record {
    below_top = lt→ltb 0 (m * up e * 1 + 2 ^ 64 * down e) (le_trans (mul-pos (pow_pos 64) (down_pos e)) (le-add_left (2 ^ 64 * down e) (m * up e * 1)));
    above_low = λ t. lt→ltb (m * up e * 1) (1 * down e) (rw (none (m * up e) (down e) t) (mul-pos (zero-lt-suc 0) (down_pos e)));
    minus_past = λ t. ap past (floor_is true) ∙ past_some G (λ z. some (m * up e) (down e) t (size_none z));
    plus_past = λ t. sym (ap past (floor_is true) ∙ past_none G (units_none (none (m * up e) (down e) t)));
    whole_le = zero-le;
  }
    where
      size_none : G ≡ 0 → m * up e ≡ 0
      size_none z = eq_of_mul-eq-mul_right (2 ^ 149) (pow_pos 149) (m * up e) 0 (v ∙ ap (λ (x : ℕ). x * down e) z ∙ zero-mul (down e))

      units_none : m * up e ≡ 0 → G ≡ 0
      units_none z = eq_of_mul-eq-mul_right (down e) (down_pos e) G 0 (sym v ∙ ap (λ (x : ℕ). x * 2 ^ 149) z ∙ sym (zero-mul (down e)))

pub cut : (q : Float) → Small q → Cut q
cut nan s = absurd s.value
cut (inf b) s = absurd s.value
cut (fin true m e) s = cut_minus m e s.G s.value.1 s.top
cut (fin false m e) s = cut_plus m e s.G s.value.1 s.top
