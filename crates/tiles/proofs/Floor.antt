-- THE KEY LEMMA: the floor of the rounded quotient of an f32 by a whole number is the floor of the exact quotient.
use mathlib.Core.Path.{◌≡◌, sym, ap, ◌∙◌, subst}
use mathlib.Core.Logic.{◌⊎◌, inl, inr}
use mathlib.Core.Bool.{Bool, true, false}
use Prim.Native.Nat.{ℕ, zero, suc, ◌*◌, ◌/◌, ◌^◌, ◌≤◌, ◌<◌, suc-le-suc}
use native.Mathlib.Nat.{le_trans, le_antisymm, lt_irrefl, zero-lt-suc, le_of_suc-le-suc, mul-pos, zero-mul, zero-div, mul-le-mul_left, div-mul-le_self, le-div_iff_mul-le}
use lib.Dec.{lit≤}
use lib.Pow.{pow_pos}
use lib.IntN.{ℤ, pos, negsuc, neg_ℤ}
use lib.Signed.{shr_z}
use lib.Ieee.{Float, nan, inf, fin, binary32, of_int}
use lib.Ieee.Nearest.{closest_same}
use Rattle.float.specs.Rounded.{◌⊘◌}
use Rattle.float.specs.Units.{signed, in_units, units_of}
use Rattle.tiles.specs.Tiles.{place}
use Rattle.tiles.specs.Cover.{NotTiny}
use Rattle.tiles.proofs.Quotient.{rounded, drops, Agree, agree}
use Rattle.float.proofs.Units.{in_units_lem, units_are, units_of_value}
use Rattle.tiles.proofs.Divided.{quotient_value}
use Rattle.tiles.proofs.Accepted.{Taken}

-- ---- the floors of two numbers that lie on the same side of each whole number

plus_floor : (X G s : ℕ) → 0 < s → Agree X G s → G / 2 ^ 149 ≡ X / (s * 2 ^ 149)
plus_floor X G s S a =
    le_antisymm
    ((le-div_iff_mul-le (mul-pos S (pow_pos 149))).1 ((a.le_iff (G / 2 ^ 149)).1 (div-mul-le_self G (2 ^ 149))))
    ((le-div_iff_mul-le (pow_pos 149)).1 ((a.le_iff (X / (s * 2 ^ 149))).0 (div-mul-le_self X (s * 2 ^ 149))))

never : (U : ℕ) → 0 * U < 0 → ⊥
never U h = lt_irrefl 0 (subst (λ (x : ℕ). x < 0) (zero-mul U) h)

first : (U X : ℕ) → 0 * U < suc X
first U X = subst (λ (x : ℕ). x < suc X) (sym (zero-mul U)) (zero-lt-suc X)

minus_floor : (X G s : ℕ) → 0 < s → Agree X G s → shr_z (neg_ℤ (pos G)) (2 ^ 149) ≡ shr_z (neg_ℤ (pos X)) (s * 2 ^ 149)
minus_floor zero zero s S a = ap pos (zero-div (2 ^ 149) ∙ sym (zero-div (s * 2 ^ 149)))
minus_floor zero (suc G) s S a = absurd (never (s * 2 ^ 149) ((a.lt_iff 0).1 (first (2 ^ 149) G)))
minus_floor (suc X) zero s S a = absurd (never (2 ^ 149) ((a.lt_iff 0).0 (first (s * 2 ^ 149) X)))
minus_floor (suc X) (suc G) s S a =
    ap negsuc
    (le_antisymm
    ((le-div_iff_mul-le (mul-pos S (pow_pos 149))).1 (le_of_suc-le-suc ((a.lt_iff (G / 2 ^ 149)).1 (suc-le-suc (div-mul-le_self G (2 ^ 149))))))
    ((le-div_iff_mul-le (pow_pos 149)).1 (le_of_suc-le-suc ((a.lt_iff (X / (s * 2 ^ 149))).0 (suc-le-suc (div-mul-le_self X (s * 2 ^ 149)))))))

signed_floor : (b : Bool) (X G s : ℕ) → 0 < s → Agree X G s → shr_z (signed b G) (2 ^ 149) ≡ shr_z (signed b X) (s * 2 ^ 149)
signed_floor false X G s S a = ap pos (plus_floor X G s S a)
signed_floor true X G s S a = minus_floor X G s S a

-- ---- a zero

rounded_zero : (s : ℕ) → 0 < s → rounded 0 s ≡ 0
rounded_zero s S =
    let d = 2 ^ drops 0 s in
    ap (λ (x : ℕ). x * d) (closest_same 0 (s * d) 0 1 (mul-pos S (pow_pos (drops 0 s))) (zero-lt-suc 0) (sym (zero-mul (s * d)))) ∙ zero-mul d

zero_floor : (b : Bool) (m : ℕ) → shr_z (signed b 0) m ≡ pos 0
zero_floor true m = ap pos (zero-div m)
zero_floor false m = ap pos (zero-div m)

-- ---- x is zero or 2 ^ -100 at least in size: then X / s has 25 digits or more

floor_of_lem : (b : Bool) (X s q j : ℕ) → 0 < s → s ≤ 4096 → q < 2 ^ 24 → X ≡ q * 2 ^ j → X ≤ 2 ^ 169 → (X ≡ 0) ⊎ (2 ^ 49 ≤ X)
    → shr_z (signed b (rounded X s)) (2 ^ 149) ≡ shr_z (signed b X) (s * 2 ^ 149)
floor_of_lem b X s q j S C Q e top (inl z) =
    subst (λ (x : ℕ). shr_z (signed b (rounded x s)) (2 ^ 149) ≡ shr_z (signed b x) (s * 2 ^ 149)) (sym z)
    (ap (λ (x : ℕ). shr_z (signed b x) (2 ^ 149)) (rounded_zero s S) ∙ zero_floor b (2 ^ 149) ∙ sym (zero_floor b (s * 2 ^ 149)))
floor_of_lem b X s q j S C Q e top (inr l) = signed_floor b X (rounded X s) s S (agree X s q j S Q e top (le_trans (le_trans (mul-le-mul_left (2 ^ 24) C) (lit≤ tt)) l))

-- THE KEY LEMMA
pub floor_quotient : (x : Float) (s : ℕ) → Taken x → NotTiny x → 0 < s → s ≤ 4096 → place s x ≡ shr_z (units_of x) (s * 2 ^ 149)
floor_quotient nan s t z S C = absurd t.0.1
floor_quotient (inf b) s t z S C = absurd t.0.1
floor_quotient (fin b m e) s t z S C =
    let X = in_units (fin b m e) in
    let u = in_units_lem b m e t.0.0 in
    let v = quotient_value b m e s t.0.0 t.1 S C in
    ap (λ (z : ℤ). shr_z z (2 ^ 149)) (units_of_value (fin b m e ⊘ of_int binary32 (pos s)) b (rounded X s) v.0)
    ∙ floor_of_lem b X s m u.places S C u.few (units_are b m e u) t.1 z
