-- The whole part of a coordinate from 0 up: 2 ^ 20 more is an f64 whose last 32 digits stand behind the point.
use Rattle.std.proofs.Common.{◌≡◌, ℕ, zero, suc, ◌+◌, ◌-◌, ◌*◌, ◌/◌, ◌%◌, ◌^◌, ◌<◌, ◌≤◌, ◌&&◌, Bool, true, false, not, T, ℤ, pos, negsuc, ltb, leb, eqb, sym, refl, ap, ◌∙◌, subst, mul-one, mul_assoc, mul_right_comm, add-mul, mul-le-mul_right, mul-lt-mul_of_pos_right, div-lt_iff_lt-mul, le-div_iff_mul-le, div-one, le_of_mul-le-mul_right, lt_of_lt_of_le, lt_of_le_of_lt, pow_pos, shl_lt, shr-shr, arith, lit≤, ltb→lt, ltb-true, ltb-false, suc-mul}
use Rattle.std.proofs.Math.Nat.{lt-div-mul-add, div-mul-le_self, div-div-eq-div-mul, mul-div-mul_right}
use mathlib.Core.Bool.{true≢false}
use lib.Ieee.{Float, nan, inf, fin, binary32, binary64, up, down, size, units, round, sum, add, lt, le, fits, to_unsigned, of_bits, to_bits, is_nan}
use lib.Ieee.Digits.{size-lt, size-le}
use lib.Ieee.Exact.{HasValue, round_exact}
use lib.Ieee.Fits.{down_pos, and_l, and_r}
use denote.Floats.{passes}
use Rattle.float.specs.Rounded.{+0}
use Rattle.float.proofs.Sign.{no_size}
use Rattle.float.proofs.Units.{pow_lt_back}
use Rattle.rounded.specs.Size.{Size}
use Rattle.rounded.proofs.Round.{MagOver, over}
use Rattle.rounded.proofs.Signed.{le_not}

-- ---- an f32 is 2 ^ -24 at least below the next whole number

digits : (s : Bool) (m : ℕ) (e : ℤ) → T (fits binary32 (fin s m e)) → m < 16777216
unfolding fits
digits s zero e f = lit≤ tt
digits s (suc m) e f =
    let few = ltb (suc m) 16777216 in
    let size = leb (down e) (2 ^ 149) in
    let top = ltb (suc m * up e) (2 ^ 128 * down e) in
    ltb→lt (suc m) 16777216 (and_r (eqb (suc m % 2) 1) few (and_l (eqb (suc m % 2) 1 && few) size (and_l (eqb (suc m % 2) 1 && few && size) top f)))

gap : (m : ℕ) (e : ℤ) → m < 16777216 → m * up e * 16777216 + down e ≤ (m * up e / down e * down e + down e) * 16777216
gap m (pos k) h = omega (arith, div-one (m * 2 ^ k))
gap m (negsuc k) h = go (ltb 16777216 D) refl
  where
    D : ℕ
    D = 2 ^ suc k

    next : m * 1 < m * 1 / D * D + D
    next = lt-div-mul-add (pow_pos (suc k))

    go : (t : Bool) → ltb 16777216 D ≡ t → m * 1 * 16777216 + D ≤ (m * 1 / D * D + D) * 16777216
    go false l = omega (arith, next, ltb-false 16777216 D l)
    go true l = omega (arith, mul-one m, ltb-true 16777216 D l)

-- ---- the digits before the point, from the bits

shape : (n : ℕ) → size n ≡ 1095 → (0 + (size n - 53) * 4503599627370496 + n / 2 ^ (size n - 53)) / 4294967296 ≡ 1092616192 + n / 2 ^ 1074
shape n s = rw s (omega (arith, shr-shr n 1042 32))

module _ (A D : ℕ) (d : 0 < D) (lo : 1048576 * D ≤ A) (hi : A < 2097152 * D) where
  abbrev whole_units : ℕ
  whole_units = A * 2 ^ 1074 / D

  least : 2 ^ 1094 ≤ whole_units
  least = (le-div_iff_mul-le d).1 (subst (λ (n : ℕ). n ≤ A * 2 ^ 1074) (mul_right_comm 1048576 D (2 ^ 1074)) (mul-le-mul_right (2 ^ 1074) lo))

  most : whole_units < 2 ^ 1095
  most =
      (div-lt_iff_lt-mul d).1
      (subst (λ (n : ℕ). A * 2 ^ 1074 < n) (mul_right_comm 2097152 D (2 ^ 1074)) (mul-lt-mul_of_pos_right hi (pow_pos 1074)))

  long : size whole_units ≡ 1095
  long =
      let few = size-le whole_units 1095 most in
      let many : 1094 < size whole_units = pow_lt_back 1094 (size whole_units) (lt_of_le_of_lt least (size-lt whole_units)) in
      omega arith

  fraction : whole_units / 2 ^ 1074 ≡ A / D
  fraction = div-div-eq-div-mul (A * 2 ^ 1074) D (2 ^ 1074) ∙ mul-div-mul_right A D (pow_pos 1074)

  whole_of : (0 + (size whole_units - 53) * 4503599627370496 + whole_units / 2 ^ (size whole_units - 53)) / 4294967296 ≡ 1092616192 + A / D
  whole_of = shape whole_units long ∙ ap (λ (n : ℕ). 1092616192 + n) fraction

bits_of : (M : ℕ) (E : ℤ) → 1048576 * down E ≤ M * up E → M * up E < 2097152 * down E → to_bits binary64 (fin false M E) / 2 ^ 32 ≡ 1092616192 + M * up E / down E
unfolding to_bits
bits_of M E lo hi = whole_of (M * up E) (down E) (down_pos E) lo hi

-- ---- 2 ^ 20 more, rounded

exact : (n : ℕ) → n < 2 ^ 45 → HasValue (round binary64 false n 16777216) false n 16777216
exact n h =
    round_exact binary64 false n 16777216 n 1050 (lit≤ tt) (omega arith) (lt_of_lt_of_le (shl_lt 45 1050 h) (lit≤ tt))
    (sym (mul_assoc n (2 ^ 1050) 16777216))

module _ (U D F : ℕ) (d : 0 < D) (f : F ≡ U / D) (few : F < 1048576) (g : U * 16777216 + D ≤ (F * D + D) * 16777216) where
  low : (1048576 + F) * 16777216 * D ≤ (U + 1048576 * D) * 16777216
  low =
      let e : (1048576 + F) * 16777216 * D ≡ (1048576 * D + F * D) * 16777216 = mul_right_comm (1048576 + F) 16777216 D ∙ ap (λ (n : ℕ). n * 16777216) (add-mul 1048576 F D) in
      let l : F * D ≤ U = subst (λ (n : ℕ). n * D ≤ U) (sym f) (div-mul-le_self U D) in
      omega arith

  high : (U + 1048576 * D) * 16777216 ≤ ((1048576 + F) * 16777216 + 16777215) * D
  high =
      let e : ((1048576 + F) * 16777216 + 16777215) * D ≡ (1048576 * D + F * D) * 16777216 + 16777215 * D =
      add-mul ((1048576 + F) * 16777216) 16777215 D
      ∙ ap (λ (n : ℕ). n + 16777215 * D) (mul_right_comm (1048576 + F) 16777216 D ∙ ap (λ (n : ℕ). n * 16777216) (add-mul 1048576 F D)) in
      omega arith

  -- what lies from there to there has that whole part
  between : (s : Float) → MagOver 16777216 false ((1048576 + F) * 16777216) ((1048576 + F) * 16777216 + 16777215) s → to_bits binary64 s / 2 ^ 32 ≡ 1093664768 + F
  between nan h = absurd h
  between (inf s) h = absurd h
  between (fin true M E) h = absurd (true≢false h.0)
  between (fin false M E) h =
      let l : (1048576 + F) * down E ≤ M * up E =
      le_of_mul-le-mul_right (subst (λ (n : ℕ). n ≤ M * up E * 16777216) (mul_right_comm (1048576 + F) 16777216 (down E)) h.1) (lit≤ tt) in
      let e : ((1048576 + F) * 16777216 + 16777215) * down E ≡ (1048576 + F) * down E * 16777216 + 16777215 * down E =
      add-mul ((1048576 + F) * 16777216) 16777215 (down E) ∙ ap (λ (n : ℕ). n + 16777215 * down E) (mul_right_comm (1048576 + F) 16777216 (down E)) in
      let p = down_pos E in
      let i : (1048576 + F) * down E ≡ 1048576 * down E + F * down E = add-mul 1048576 F (down E) in
      let j : suc (1048576 + F) * down E ≡ (1048576 + F) * down E + down E = suc-mul (1048576 + F) (down E) in
      let t : F * down E ≤ 1048575 * down E = mul-le-mul_right (down E) (omega arith) in
      let least : 1048576 + F ≤ M * up E / down E = (le-div_iff_mul-le p).1 l in
      let most : M * up E / down E < suc (1048576 + F) = (div-lt_iff_lt-mul p).1 (omega (arith, h.2)) in
      bits_of M E (omega arith) (omega (arith, h.2)) ∙ omega arith

  over_twenty : MagOver 16777216 false ((1048576 + F) * 16777216) ((1048576 + F) * 16777216 + 16777215) (round binary64 false (U + 1048576 * D) D)
  over_twenty =
      (over binary64 16777216 (U + 1048576 * D) D ((1048576 + F) * 16777216) ((1048576 + F) * 16777216 + 16777215) (lit≤ tt) d
      (exact ((1048576 + F) * 16777216) (omega arith)) (exact ((1048576 + F) * 16777216 + 16777215) (omega arith)) low high)

  number : (s : Float) → MagOver 16777216 false ((1048576 + F) * 16777216) ((1048576 + F) * 16777216 + 16777215) s → T (not (is_nan s))
  unfolding is_nan
  number nan h = absurd h
  number (inf s) h = absurd h
  number (fin s M E) h = tt

-- ---- of a coordinate

-- its bits are those digits behind 2 ^ 20's
pub record Digits (x : Float) : Type 0 where
  pub number_is : T (not (is_nan (add binary64 x (of_bits binary64 0x4130_0000_0000_0000))))
  pub bits_are : to_bits binary64 (add binary64 x (of_bits binary64 0x4130_0000_0000_0000)) / 2 ^ 32 ≡ 1093664768 + to_unsigned 64 x

digits_zero : Digits (fin true 0 (pos 0))
unfolding add sum round units size of_bits to_bits to_unsigned is_nan
digits_zero = record { number_is = tt; bits_are = refl }

sum_is : (m : ℕ) (e : ℤ) → add binary64 (fin false m e) (of_bits binary64 0x4130_0000_0000_0000) ≡ round binary64 false (m * up e + 1048576 * down e) (down e)
unfolding add sum of_bits
sum_is m e =
    ap (λ (n : ℕ). round binary64 false (n + 1048576 * down e) (down e * 1)) (mul-one (m * up e))
    ∙ ap (round binary64 false (m * up e + 1048576 * down e)) (mul-one (down e))

pub digits_of : (x : Float) → T (fits binary32 x) → Size 196610 x → le +0 x ≡ true → Digits x
unfolding to_unsigned lt of_bits
digits_of nan f h p = absurd h
digits_of (inf s) f h p = absurd h
digits_of (fin true m e) f h p =
    let z = no_size true m e f (omega (arith, ltb-false 0 (m * up e * 1 + 0 * down e) (le_not +0 (fin true m e) (passes _ p)))) in
    rw (z.0, z.1) digits_zero
digits_of (fin false m e) f h p =
    let U = m * up e in
    let D = down e in
    let F = U / D in
    let few : F < 196611 = (div-lt_iff_lt-mul (down_pos e)).1 (omega (arith, down_pos e)) in
    let g = gap m e (digits false m e f) in
    let mag = over_twenty U D F (down_pos e) refl (omega arith) g in
    record {
      number_is = subst (λ (s : Float). T (not (is_nan s))) (sym (sum_is m e)) (number U D F (down_pos e) refl (omega arith) g _ mag);
      bits_are = ap (λ (s : Float). to_bits binary64 s / 2 ^ 32) (sum_is m e) ∙ between U D F (down_pos e) refl (omega arith) g _ mag ∙ omega arith;
    }
