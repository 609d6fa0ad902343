-- The root of n * 2 ^ 23 rounded, by its whole root q: up where the square of q leaves more than q.
use mathlib.Core.Path.{◌≡◌}
use mathlib.Core.Bool.{true, false}
use Prim.Native.Nat.{ℕ, ◌+◌, ◌-◌, ◌*◌, ◌^◌, ◌≤◌, ◌<◌}
use native.Mathlib.Nat.{lt_of_not-le, mul-le-mul}
use native.Mathlib.Omega.{arith}
use borrow.Author.Tests.{le-leb, lt-leb}
use lib.Dec.{leb}
use lib.Pow.{pow_pos}
use Rattle.root.specs.Root.{rounded}
use Rattle.root.specs.Steps.{IsWholeRoot, Rounds}
use Rattle.root.proofs.Whole.{IsRoot, is_root, root_low, root_high}
use Rattle.root.proofs.Leading.{dropped_is, leading_is}
use Rattle.root.proofs.Halfway.{half_below, half_above}

-- ---- the choice that the definition makes
module _ {m q : ℕ} (k : ℕ) (r : IsRoot m q) (low : 2 ^ 23 ≤ q) (high : q < 2 ^ 24) where
  rounded_up : q * q + q < m → rounded (m * (2 ^ k * 2 ^ k)) ≡ q + 1
  rounded_up h =
      let s = (2 * q + 1) * 2 ^ k in
      let n = m * (2 ^ k * 2 ^ k) in
      let reached : leb (s * s) (4 * n) ≡ true = le-leb (s * s) (4 * n) (half_below m q (2 ^ k) h) in
      rw (leading_is k r low high, dropped_is k r low high, reached)

  rounded_down : m ≤ q * q + q → rounded (m * (2 ^ k * 2 ^ k)) ≡ q
  rounded_down h =
      let s = (2 * q + 1) * 2 ^ k in
      let n = m * (2 ^ k * 2 ^ k) in
      let short : leb (s * s) (4 * n) ≡ false = lt-leb (s * s) (4 * n) (half_above m q (2 ^ k) (pow_pos k) h) in
      rw (leading_is k r low high, dropped_is k r low high, short)

-- ---- the choice that the code makes
module _ {q rest : ℕ} (n : ℕ) (lo : 2 ^ 23 ≤ n) (hi : n ≤ 2 ^ 25 - 2) (w : IsWholeRoot (n * 2 ^ 23) q rest) where
  root : IsRoot (n * 2 ^ 23) q
  root = is_root w

  low : 2 ^ 23 ≤ q
  low = root_low (omega arith) root

  high : q < 2 ^ 24
  high = root_high (omega arith) root

  -- what rounds up is not the last number of 24 digits
  not_last : q < rest → q + 1 < 2 ^ 24
  not_last h = lt_of_not-le over
    where
      over : 2 ^ 24 ≤ q + 1 → ⊥
      over g = let last : 2 ^ 24 - 1 ≤ q = omega arith in omega (arith, mul-le-mul last last)

  pub up : q < rest → Rounds (n * 2 ^ 23) (q + 1)
  up h = record {
    low = omega (arith, low);
    high = not_last h;
    same = λ k. (rounded_up k root low high (omega arith), dropped_is k root low high);
  }

  pub down : rest ≤ q → Rounds (n * 2 ^ 23) q
  down h = record {
    low = low;
    high = high;
    same = λ k. (rounded_down k root low high (omega arith), dropped_is k root low high);
  }
