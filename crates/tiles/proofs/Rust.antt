-- The Rust's `(x / size as f32).floor() as i32` is the place of the definitions, tiny coordinates included.
use mathlib.Core.Path.{◌≡◌, refl, sym, ap, ◌∙◌}
use mathlib.Core.Bool.{Bool, true, false, cond}
use Prim.Native.Nat.{ℕ, zero, suc, ◌+◌, ◌-◌, ◌*◌, ◌/◌, ◌^◌, ◌≤◌, ◌<◌, min, zero-le, suc-le-suc}
use native.Mathlib.Nat.{le_refl, le_trans, mul-one, zero-mul, suc-mul, mul_right_comm, mul-le-mul_right, mul-lt-mul_of_pos_right}
use native.Mathlib.Nat.{le_of_mul-le-mul_right, lt_of_mul-lt-mul_right, eq_of_mul-eq-mul_right}
use native.Mathlib.Nat.{mul-div_cancel, div-mul-le_self, div-eq_of_lt, div-eq_of_lt-le, div-lt_iff_lt-mul}
use native.Mathlib.Numerals.{add-one}
use native.Mathlib.Omega.{arith}
use lib.Dec.{lit≤}
use lib.Pow.{pow_pos}
use lib.IntN.{ℤ, pos, neg_ℤ}
use lib.Signed.{shr_z}
use lib.Ieee.{Float, nan, inf, fin, binary32, up, down, round, of_int, to_signed}
use lib.Ieee.Back.{round_whole}
use lib.Ieee.Exact.{HasValue}
use lib.Ieee.Fits.{down_pos}
use lib.Ieee.Nearest.{div_same}
use Rattle.float.specs.Rounded.{◌⊘◌}
use Rattle.float.specs.Units.{signed}
use Rattle.rounding.specs.Values.{size_down, size_up, whole_of, floor_of}
use Rattle.tiles.specs.Tiles.{floor_int}
use Rattle.tiles.specs.Rust.{SamePlace}
use Rattle.tiles.proofs.Accepted.{taken}
use Rattle.float.proofs.Units.{units_of_value}
use Rattle.tiles.proofs.Divided.{Small, small_quotient, part_le}

-- ---- a whole number up to 2 ^ 20, as a float, cut to an i32

cast_value : (s : Bool) (n : ℕ) (x : Float) → HasValue x s n 1 → n ≤ 1048576 → to_signed 31 x ≡ signed s n
unfolding to_signed
cast_value s n nan v l = absurd v
cast_value s n (inf t) v l = absurd v
cast_value s n (fin t m e) v l =
    let w : m * up e / down e ≡ n = ap (λ (x : ℕ). x / down e) (sym (mul-one (m * up e)) ∙ v.1) ∙ mul-div_cancel n (down_pos e) in
    let low : min n (2 ^ 31) ≡ n = omega arith in
    let high : min n (2 ^ 31 - 1) ≡ n = omega arith in
    rw (w, low, high, v.0) (sign s)
  where
    sign : (b : Bool) → cond b (neg_ℤ (pos n)) (pos n) ≡ signed b n
    sign true = refl
    sign false = refl

cast_whole : (s : Bool) (n : ℕ) → n ≤ 1048576 → to_signed 31 (whole_of s n) ≡ signed s n
unfolding whole_of
cast_whole s n l = cast_value s n (round binary32 s n 1) (round_whole binary32 s n (le_trans l (lit≤ tt))) l

-- ---- the least whole number that is not below M / d, where M / d is suc G / U

module _ (M d G U : ℕ) (D : 0 < d) (P : 0 < U) (v : M * U ≡ suc G * d) where
  above : G / U * d < M
  above = lt_of_mul-lt-mul_right U (rw (mul_right_comm (G / U) d U, v) (mul-lt-mul_of_pos_right (suc-le-suc (div-mul-le_self G U)) D))

  below : M ≤ suc (G / U) * d
  below = le_of_mul-le-mul_right (rw (v, mul_right_comm (suc (G / U)) d U) (mul-le-mul_right d ((div-lt_iff_lt-mul P).0 (le_refl (suc (G / U)))))) P

  up_is : (M + (d - 1)) / d ≡ suc (G / U)
  up_is =
      let a = above in
      let b = below in
      let e : suc (G / U) * d ≡ G / U * d + d = suc-mul (G / U) d in
      let f : (suc (G / U) + 1) * d ≡ suc (G / U) * d + d = ap (λ (x : ℕ). x * d) (add-one (suc (G / U))) ∙ suc-mul (suc (G / U)) d in
      div-eq_of_lt-le d (omega arith) (omega arith)

up_zero : (d : ℕ) → 0 < d → (0 + (d - 1)) / d ≡ 0
up_zero d h = div-eq_of_lt (omega arith)

-- ---- the floor of a value of at most 2 ^ 20

floor_is : (q : Float) → Small q → to_signed 31 (floor_of q) ≡ floor_int q
unfolding floor_of
floor_is nan s = absurd s.value
floor_is (inf b) s = absurd s.value
floor_is (fin false m e) s =
    let n : size_down m e ≡ s.G / 2 ^ 149 = div_same (m * up e) (down e) s.G (2 ^ 149) (down_pos e) (pow_pos 149) s.value.1 in
    ap (λ (x : ℕ). to_signed 31 (whole_of false x)) n
    ∙ cast_whole false (s.G / 2 ^ 149) (part_le s.G s.top)
    ∙ ap (λ (z : ℤ). shr_z z (2 ^ 149)) (sym (units_of_value (fin false m e) false s.G (refl, s.value.1)))
floor_is (fin true m e) s =
    go s.G s.value.1 s.top ∙ ap (λ (z : ℤ). shr_z z (2 ^ 149)) (sym (units_of_value (fin true m e) true s.G (refl, s.value.1)))
  where
    go : (G : ℕ) → m * up e * 2 ^ 149 ≡ G * down e → G ≤ 2 ^ 169 → to_signed 31 (whole_of true (size_up m e)) ≡ shr_z (neg_ℤ (pos G)) (2 ^ 149)
    go zero v h =
        let z : m * up e ≡ 0 = eq_of_mul-eq-mul_right (2 ^ 149) (pow_pos 149) (m * up e) 0 (v ∙ zero-mul (down e)) in
        let n : size_up m e ≡ 0 = ap (λ (x : ℕ). (x + (down e - 1)) / down e) z ∙ up_zero (down e) (down_pos e) in
        ap (λ (x : ℕ). to_signed 31 (whole_of true x)) n ∙ cast_whole true 0 zero-le
    go (suc G) v h =
        let n : size_up m e ≡ suc (G / 2 ^ 149) = up_is (m * up e) (down e) G (2 ^ 149) (down_pos e) (pow_pos 149) v in
        ap (λ (x : ℕ). to_signed 31 (whole_of true x)) n ∙ cast_whole true (suc (G / 2 ^ 149)) ((div-lt_iff_lt-mul (pow_pos 149)).1 h)

pub rust_place_lem : SamePlace
rust_place_lem x size f h S C = floor_is (x ⊘ of_int binary32 (pos size)) (small_quotient x size (taken x f h) S C)
