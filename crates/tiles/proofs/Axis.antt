-- One axis, columns in x or rows in y: the places that are listed are those that own an f32 of the box's range.
use mathlib.Core.Path.{◌≡◌, ap}
use mathlib.Core.Logic.{inl, inr, ◌↔◌}
use mathlib.Core.Bool.{true, false}
use Prim.Native.Nat.{ℕ, zero, suc, ◌+◌, ◌*◌, ◌/◌, ◌^◌, ◌≤◌, ◌<◌, zero-le, suc-le-suc}
use native.Mathlib.Nat.{le_refl, le_trans, le_of_eq, le_antisymm, lt_of_lt_of_le, le_of_suc-le-suc, not-suc-le-zero, mul_assoc, mul-pos}
use native.Mathlib.Nat.{mul-le-mul_right, mul-lt-mul_of_pos_right, le_of_mul-le-mul_right, lt_of_mul-lt-mul_right}
use native.Mathlib.Nat.{div-mul-le_self, le-div_iff_mul-le, div-lt_iff_lt-mul}
use native.Mathlib.Omega.{arith}
use lib.Dec.{lit≤}
use lib.Pow.{pow_pos}
use lib.IntN.{ℤ, pos, negsuc, neg_ℤ}
use lib.Signed.{shr_z, ◌≤ℤ◌, ◌<ℤ◌, ≤ℤ_refl, <ℤ-≤ℤ_trans, le_z_yes, lt_z_yes}
use lib.Ieee.{Float, nan, inf, fin, binary32, round, of_int}
use lib.Ieee.Back.{round_whole}
use lib.Ieee.Fits.{of_int-fits}
use Rattle.float.specs.Units.{in_units, units_of}
use Rattle.tiles.specs.Sheet.{edge, OnAxis, OwnsAt}
use Rattle.tiles.specs.Cover.{F32, Between, NotTiny}
use Rattle.tiles.specs.Tiles.{from, past, first_place, past_place_of, place_count}
use Rattle.tiles.proofs.Accepted.{Taken}
use Rattle.float.proofs.Units.{units_of_value}
use Rattle.tiles.proofs.Wholes.{whole_value, value_finite}
use Rattle.tiles.proofs.Floor.{floor_quotient}
use Rattle.tiles.proofs.Order.{side, ≤ℤ-trans, ≤ℤ-<ℤ-trans, <→≤ℤ, pos_le, pos_lt, le_pos, lt_pos}

-- what an accepted call knows of the tile size and the box's range where the premises hold
pub record Axis (size : ℕ) (low high : Float) : Type 0 where
  pub size_low : 1 ≤ size
  pub size_high : size ≤ 4096
  pub low_taken : Taken low
  pub low_size : NotTiny low
  pub high_taken : Taken high
  pub high_size : NotTiny high
  pub ordered : units_of low ≤ℤ units_of high

-- ---- places own what is on the sheet, each f32 there has a place, and only one

pub owns_on : (size n i : ℕ) (x : Float) → i < n → OwnsAt size i x → OnAxis size n x
owns_on size n i x h o = (≤ℤ-trans (pos_le zero-le) o.0, <ℤ-≤ℤ_trans o.1 (pos_le (mul-le-mul_right (2 ^ 149) (mul-le-mul_right size h))))

pub one_owner : (size i k : ℕ) (x : Float) → OwnsAt size i x → OwnsAt size k x → i ≡ k
one_owner size i k x o p = le_antisymm (not_past i k o.0 p.1) (not_past k i p.0 o.1)
  where
    not_past : (i k : ℕ) → edge size i ≤ℤ units_of x → units_of x <ℤ edge size (suc k) → i ≤ k
    not_past i k h l = le_of_suc-le-suc (lt_of_mul-lt-mul_right size (lt_of_mul-lt-mul_right (2 ^ 149) (lt_pos (≤ℤ-<ℤ-trans h l))))

edge_is : (size i : ℕ) → edge size i ≡ pos (i * (size * 2 ^ 149))
edge_is size i = ap pos (mul_assoc i size (2 ^ 149))

pub has_owner : (size n : ℕ) (x : Float) → 0 < size → OnAxis size n x → (i : ℕ) × (i < n) × OwnsAt size i x
has_owner size n x S o = go (units_of x) o.0 o.1
  where
    go : (z : ℤ) → pos 0 ≤ℤ z → z <ℤ edge size n → (i : ℕ) × (i < n) × ((edge size i ≤ℤ z) × (z <ℤ edge size (suc i)))
    go (negsuc a) h k = absurd h.le
    go (pos a) h k =
        let m = size * 2 ^ 149 in
        let M : 0 < m = mul-pos S (pow_pos 149) in
        let i = a / m in (
          i,
          (div-lt_iff_lt-mul M).1 (lt_of_lt_of_le (lt_pos k) (le_of_eq (mul_assoc n size (2 ^ 149)))),
          (rw edge_is (pos_le (div-mul-le_self a m)), rw edge_is (pos_lt ((div-lt_iff_lt-mul M).0 (le_refl (suc i))))),
        )

-- ---- the floor of z / m, by the whole numbers that it is not above and those that it is below

module _ (m : ℕ) (M : 0 < m) (i : ℕ) where
  from_iff : (z : ℤ) → (from (shr_z z m) ≤ i) ↔ (z <ℤ pos (suc i * m))
  from_iff (pos a) = (λ h. pos_lt ((div-lt_iff_lt-mul M).0 (suc-le-suc h)), λ h. le_of_suc-le-suc ((div-lt_iff_lt-mul M).1 (lt_pos h)))
  from_iff (negsuc a) = (λ _. lt_z_yes tt, λ _. zero-le)

  past_iff : (z : ℤ) → (i < past (shr_z z m)) ↔ (pos (i * m) ≤ℤ z)
  past_iff (pos a) = (λ h. pos_le ((le-div_iff_mul-le M).0 (le_of_suc-le-suc h)), λ h. suc-le-suc ((le-div_iff_mul-le M).1 (le_pos h)))
  past_iff (negsuc a) = (λ h. absurd (not-suc-le-zero h), λ h. absurd h.le)

-- ---- a place is listed exactly if it owns an f32 of the range

units_le : (x : Float) → units_of x ≤ℤ pos (in_units x)
units_le nan = ≤ℤ_refl (pos 0)
units_le (inf s) = ≤ℤ_refl (pos 0)
units_le (fin false m e) = ≤ℤ_refl (pos (in_units (fin false m e)))
units_le (fin true m e) = minus (in_units (fin true m e))
  where
    minus : (n : ℕ) → neg_ℤ (pos n) ≤ℤ pos n
    minus zero = ≤ℤ_refl (pos 0)
    minus (suc n) = le_z_yes tt

module _ {size : ℕ} {low high : Float} (a : Axis size low high) where
  -- the first place and the one past the last, by exact comparison
  first_iff : (i : ℕ) → (first_place size low ≤ i) ↔ (units_of low <ℤ edge size (suc i))
  first_iff i =
      rw (floor_quotient low size a.low_taken a.low_size a.size_low a.size_high, edge_is size (suc i))
      (from_iff (size * 2 ^ 149) (mul-pos a.size_low (pow_pos 149)) i (units_of low))

  last_iff : (i : ℕ) → (i < past_place_of size high) ↔ (edge size i ≤ℤ units_of high)
  last_iff i =
      rw (floor_quotient high size a.high_taken a.high_size a.size_low a.size_high, edge_is size i)
      (past_iff (size * 2 ^ 149) (mul-pos a.size_low (pow_pos 149)) i (units_of high))

  pub listed_if : (n i : ℕ) (x : Float) → i < n → Between low high x → OwnsAt size i x
      → (first_place size low ≤ i) × (i < first_place size low + place_count size n low high)
  listed_if n i x h b o =
      let f : first_place size low ≤ i = (first_iff i).1 (≤ℤ-<ℤ-trans b.0 o.1) in
      let p : i < past_place_of size high = (last_iff i).1 (≤ℤ-trans o.0 b.1) in
      (f, omega arith)

  -- an edge that is not above the range is an f32
  edge_f32 : (i : ℕ) → edge size i ≤ℤ units_of high → let x = of_int binary32 (pos (i * size)) in F32 x × (units_of x ≡ edge size i)
  unfolding of_int
  edge_f32 i h =
      let n = i * size in
      let l : n * 2 ^ 149 ≤ 2 ^ 20 * 2 ^ 149 = le_trans (le_pos (≤ℤ-trans h (units_le high))) a.high_taken.1 in
      let x = round binary32 false n 1 in
      let v = round_whole binary32 false n (le_trans {m = 2 ^ 20} (le_of_mul-le-mul_right l (pow_pos 149)) (lit≤ tt)) in
      ((of_int-fits binary32 (pos n), value_finite x false n 1 v), units_of_value x false (n * 2 ^ 149) (whole_value x false n v))

  edge_lt : (i : ℕ) → edge size i <ℤ edge size (suc i)
  edge_lt i = pos_lt (mul-lt-mul_of_pos_right (mul-lt-mul_of_pos_right (le_refl (suc i)) a.size_low) (pow_pos 149))

  -- the f32 is low, or the place's own edge where that is higher
  pub listed_only : (n i : ℕ) → first_place size low ≤ i → i < first_place size low + place_count size n low high
      → (i < n) × ((x : Float) × F32 x × Between low high x × OwnsAt size i x)
  listed_only n i f l =
      let h : i < n = omega arith in
      let p : i < past_place_of size high = omega arith in
      let H : edge size i ≤ℤ units_of high = (last_iff i).0 p in (
        h,
        elim (side (edge size i) (units_of low)) [
          | inl g ↦ (low, a.low_taken.0, (≤ℤ_refl (units_of low), a.ordered), (<→≤ℤ g, (first_iff i).0 f))
          | inr g ↦
              let w = edge_f32 i H in
              (of_int binary32 (pos (i * size)), w.0, (rw w.1 g, rw w.1 H), (rw w.1 (≤ℤ_refl (edge size i)), rw w.1 (edge_lt i)))
        ],
      )
