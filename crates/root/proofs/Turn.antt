-- One turn of the digit loop, on plain numbers.
-- At the digit of weight `bit`, `root` has the digits above it, and rest * bit is what its square leaves of n.
use mathlib.Core.Path.{◌≡◌, refl, sym, ap, ◌∙◌, subst}
use Prim.Native.Nat.{ℕ, zero, suc, ◌+◌, ◌-◌, ◌*◌, ◌/◌, ◌%◌, ◌^◌, ◌≤◌, ◌<◌}
use native.Mathlib.Nat.{add-mul, mul-add, mul_assoc, mul-one, zero-mul, pow-succ', mul-div_cancel_left, zero-lt-suc}
use native.Mathlib.Nat.{le_of_eq, le_trans, le_of_suc-le-suc, mul-lt-mul_of_pos_right, lt_of_mul-lt-mul_right}
use native.Mathlib.Omega.{arith}
use lib.Pow.{pow_mono, pow_pos}
use Rattle.root.specs.Steps.{IsWholeRoot}
use Rattle.root.proofs.Squares.{square_add, root_lt}

-- before the digit is chosen, two more of its weight are too much, and something is left; `found` is what the digits above it make
pub record Open (n root rest bit : ℕ) : Type 0 where
  pub sum : root * root + rest * bit ≡ n
  pub bound : n < (root + bit + bit) * (root + bit + bit)
  pub left : 0 < rest
  pub found : ℕ
  pub made : root ≡ found * (bit + bit)

-- after it is chosen, one more is; `found` is what the digits down to it make, odd if nothing is left: it is a 1 then
pub record Chosen (n root rest bit : ℕ) : Type 0 where
  pub sum : root * root + rest * bit ≡ n
  pub bound : n < (root + bit) * (root + bit)
  pub found : ℕ
  pub made : root ≡ found * bit
  pub last : rest ≡ 0 → found % 2 ≡ 1

-- ---- the digit: a 1 where there is room for it, and otherwise a 0
pub digit_one : {n root rest bit : ℕ} → Open n root rest bit → root + root + bit ≤ rest
    → Chosen n (root + bit) (rest - (root + root + bit)) bit
digit_one {n} {root} {rest} {bit} o room =
    let cost = root + root + bit in
    let whole : rest - cost + cost ≡ rest = omega arith in
    let scaled : (rest - cost + cost) * bit ≡ rest * bit = ap (λ (x : ℕ). x * bit) whole in
    record {
      sum = omega (arith, square_add root bit, add-mul (rest - cost) cost bit);
      bound = o.bound;
      found = 2 * o.found + 1;
      made = omega (arith, o.made, mul-add o.found bit bit, add-mul (2 * o.found) 1 bit, mul_assoc 2 o.found bit);
      last = λ (z : rest - cost ≡ 0). omega arith;
    }

pub digit_zero : {n root rest bit : ℕ} → Open n root rest bit → 0 < bit → rest < root + root + bit
    → Chosen n root rest bit
digit_zero {n} {root} {rest} {bit} o positive short =
    record {
      sum = o.sum;
      bound = omega (arith, square_add root bit, mul-lt-mul_of_pos_right short positive);
      found = 2 * o.found;
      made = omega (arith, o.made, mul-add o.found bit bit, mul_assoc 2 o.found bit);
      last = λ (z : rest ≡ 0). omega (arith, o.left);
    }

-- ---- the next digit has half of the weight, so the rest counts twice
pub next_weight : {bit : ℕ} (i : ℕ) → bit ≡ 2 ^ i → (bit ≡ 1 → ⊥)
    → (j : ℕ) × (bit / 2 ≡ 2 ^ j) × (suc j ≡ i) × (bit / 2 + bit / 2 ≡ bit)
next_weight zero e more = absurd (more e)
next_weight {bit} (suc j) e more =
    let double : bit ≡ 2 * 2 ^ j = e ∙ pow-succ' 2 j in
    let half : bit / 2 ≡ 2 ^ j = ap (λ (x : ℕ). x / 2) double ∙ mul-div_cancel_left (2 ^ j) (zero-lt-suc 1) in
    (j, half, refl, omega arith)

pub next_open : {n root rest bit : ℕ} (half : ℕ) → half + half ≡ bit → (rest ≡ 0 → ⊥) → Chosen n root rest bit
    → Open n root (rest + rest) half
next_open {n} {root} {rest} {bit} half e more d =
    let scaled : rest * (half + half) ≡ rest * bit = ap (λ (x : ℕ). rest * x) e in
    let width : root + half + half ≡ root + bit = omega arith in
    record {
      sum = omega (arith, mul-add rest half half, add-mul rest rest half);
      bound = rw width d.bound;
      left = omega arith;
      found = d.found;
      made = rw e d.made;
    }

-- ---- after the last digit
pub last_digit_lem : {n root rest bit : ℕ} → bit ≡ 1 → Chosen n root rest bit → IsWholeRoot n root rest
last_digit_lem {n} {root} {rest} {bit} e d =
    let one : rest * bit ≡ rest = ap (λ (x : ℕ). rest * x) e ∙ mul-one rest in
    record { square = omega arith; next = rw e at d.bound }

-- ---- where nothing is left over, the digits below are all 0
pub nothing_left : {n root rest bit : ℕ} → rest ≡ 0 → Chosen n root rest bit → IsWholeRoot n root rest
nothing_left {n} {root} {rest} {bit} e d =
    let none : rest * bit ≡ 0 = ap (λ (x : ℕ). x * bit) e ∙ zero-mul bit in
    record { square = omega arith; next = omega (arith, square_add root 1) }

-- ---- bounds, so that no sum wraps
pub weight_positive : {bit : ℕ} (i : ℕ) → bit ≡ 2 ^ i → 0 < bit
weight_positive i e = subst (λ (x : ℕ). 0 < x) (sym e) (pow_pos i)

pub weight_bound : {bit : ℕ} (i : ℕ) → bit ≡ 2 ^ i → i < 24 → bit ≤ 2 ^ 23
weight_bound i e h = le_trans (le_of_eq e) (pow_mono {i = i} {j = 23} (le_of_suc-le-suc h))

pub root_bound : (n root left : ℕ) → n < 2 ^ 25 → root * root + left ≡ n * 2 ^ 23 → root < 2 ^ 24
root_bound n root left h e = root_lt root (2 ^ 24) (omega arith)

pub rest_bound : {n root rest bit : ℕ} → Chosen n root rest bit → rest < root + root + bit
rest_bound {n} {root} {rest} {bit} d = lt_of_mul-lt-mul_right bit (omega (arith, square_add root bit))
