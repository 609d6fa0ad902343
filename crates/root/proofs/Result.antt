-- `nearest_root n` as a float: its units are nearest to √n, it is positive, and it is an f32.
use mathlib.Core.Path.{◌≡◌, ap, ◌∙◌}
use mathlib.Core.Bool.{Bool, true, false, not, cond}
use Prim.Native.Nat.{ℕ, ◌+◌, ◌*◌, ◌^◌, ◌≤◌, ◌<◌}
use native.Mathlib.Nat.{lt_of_le_of_lt, mul-pos, mul-le-mul_right}
use native.Mathlib.Omega.{arith}
use lib.Arith.{lt_of_le-ne}
use lib.Dec.{T, leb, leb→le, nleb→lt, lit<}
use lib.Pow.{pow-add, pow-lt, pow_pos}
use lib.Ieee.{binary32, size, fits}
use lib.Ieee.Digits.{size-le}
use lib.Ieee.Exact.{HasValue, odd_sign}
use lib.Ieee.Fits.{kept-lt, odd-fits}
use lib.Ieee.Positive.{positive, positive_of_value}
use Rattle.float.specs.Units.{in_units}
use Rattle.root.specs.Root.{whole_root_of, dropped, leading, rounded, nearest_root}
use Rattle.root.specs.Nearest.{Nearer}
use Rattle.root.proofs.Squares.{root_lt}
use Rattle.root.proofs.Whole.{whole_root}
use Rattle.root.proofs.Leading.{leading_low, leading_under, leading_over}
use Rattle.root.proofs.Halfway.{no_tie}
use Rattle.root.proofs.Closest.{lower_nearer, upper_nearer}
use Rattle.float.proofs.Units.{Representable, units_of_lem}
use Rattle.root.proofs.Neighbours.{next_up, next_down}

value : (n : ℕ) → HasValue (nearest_root n) false (rounded n * 2 ^ dropped n) (2 ^ 149)
unfolding nearest_root
value n = odd_sign 25 false (rounded n) (dropped n) 149

pub result_units : (n : ℕ) → in_units (nearest_root n) ≡ rounded n * 2 ^ dropped n
result_units n = units_of_lem (nearest_root n) false (rounded n * 2 ^ dropped n) (value n)

-- ---- nearest
pub result_nearer : {n y : ℕ} → 2 ^ 46 ≤ n → Representable n → Representable y → Nearer n (rounded n * 2 ^ dropped n) y
result_nearer {n} {y} big r s = go (leb (h * h) (4 * n)) (leb→le (h * h) (4 * n)) (nleb→lt (h * h) (4 * n))
  where
    q : ℕ
    q = leading n

    u : ℕ
    u = 2 ^ dropped n

    h : ℕ
    h = (2 * q + 1) * u

    tie : h * h ≡ 4 * n → ⊥
    tie e =
        let same : h * h ≡ 4 * (r.digits * 2 ^ r.places) = e ∙ ap (λ (x : ℕ). 4 * x) r.value in
        no_tie r.digits r.places q (dropped n) r.few (leading_low n big) same

    go : (b : Bool) → (T b → h * h ≤ 4 * n) → (T (not b) → 4 * n < h * h) → Nearer n (cond b (q + 1) q * u) y
    go true reached short =
        upper_nearer q u y (whole_root n) (leading_over n) (lt_of_le-ne (reached tt) tie)
        (next_down (dropped n) q y (leading_low n big) s)
    go false reached short =
        lower_nearer q u y (whole_root n) (leading_under n) (short tt)
        (next_up (dropped n) q y (leading_low n big) s)

-- ---- positive
rounded_range : (n : ℕ) → (leading n ≤ rounded n) × (rounded n ≤ leading n + 1)
rounded_range n = let h = (2 * leading n + 1) * 2 ^ dropped n in go (leb (h * h) (4 * n)) (leading n)
  where
    go : (b : Bool) (q : ℕ) → (q ≤ cond b (q + 1) q) × (cond b (q + 1) q ≤ q + 1)
    go true q = (omega arith, omega arith)
    go false q = (omega arith, omega arith)

pub result_positive : (n : ℕ) → 2 ^ 46 ≤ n → T (positive (nearest_root n))
result_positive n big =
    let some : 0 < rounded n = omega (arith, leading_low n big, rounded_range n) in
    let units : 0 < rounded n * 2 ^ dropped n = mul-pos some (pow_pos (dropped n)) in
    positive_of_value (nearest_root n) (rounded n * 2 ^ dropped n) (2 ^ 149) (value n) units

-- ---- an f32: the largest root has 213 digits, where an f32 has up to 277
pub result_fits : (n : ℕ) → n < 2 ^ 426 → T (fits binary32 (nearest_root n))
unfolding nearest_root
result_fits n h =
    let w = whole_root_of n in
    let most : size w ≤ 213 = size-le w 213 (root_lt w (2 ^ 213) (lt_of_le_of_lt (whole_root n).low h)) in
    let digits : rounded n ≤ 2 ^ 24 = omega (arith, rounded_range n, kept-lt 24 w) in
    let room : 24 + dropped n < 277 = omega arith in
    let under : rounded n * 2 ^ dropped n < 2 ^ 277 =
    lt_of_le_of_lt (mul-le-mul_right (2 ^ dropped n) digits) (rw (← pow-add 2 24 (dropped n)) (pow-lt room)) in
    odd-fits binary32 25 false (rounded n) (dropped n) (lt_of_le_of_lt digits (lit< tt)) digits under
