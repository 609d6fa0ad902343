-- X units of 2 ^ -149 divided by a whole number s and rounded to 24 digits: the result lies on the same side of each whole number as
-- the exact quotient. This page speaks of whole numbers only, and proofs/Floor.antt of floats.
--
-- The rounded quotient G is a multiple of the step d = 2 ^ drops, and G * s is within h = d * s / 2 of X. Each whole number N is a
-- multiple of d too. So where N and G differ, N * s and G * s differ by d * s at least, which is more than h. X has at most 24 digits
-- before its closing zeros, and h is so small that X and N * s differ by more than h, where they differ. So X is to N * s as G is to N.
use mathlib.Core.Path.{◌≡◌, refl, sym, ap, ◌∙◌, subst}
use mathlib.Core.Logic.{inl, inr, ◌↔◌}
use Prim.Native.Nat.{ℕ, suc, ◌+◌, ◌-◌, ◌*◌, ◌/◌, ◌^◌, ◌≤◌, ◌<◌}
use native.Mathlib.Nat.{le_trans, le_of_eq, lt_of_lt_of_le, lt_of_le_of_lt, lt_of_not-le, not-le_of_lt, mul_comm, mul_assoc, mul-pos, mul-add, add-mul}
use native.Mathlib.Nat.{mul-le-mul_right, mul-lt-mul_of_pos_right, lt_of_mul-lt-mul_left, lt_of_mul-lt-mul_right, le-mul_of_pos_right, two-pow-succ, le-div_iff_mul-le}
use native.Mathlib.Omega.{arith}
use lib.Dec.{lit<}
use lib.Pow.{pow-add, pow_pos, pow_mono}
use lib.Ieee.{size}
use lib.Ieee.Digits.{size-lt, size_reaches}
use lib.Ieee.Nearest.{closest}
use Rattle.tiles.proofs.Closest.{closest_within}
use Rattle.float.proofs.Units.{multiple}
use Rattle.tiles.proofs.Multiples.{lt_or_ge, apart, gap}

-- what the quotient drops of its digits, and what it is rounded to: `grid` of lib.Ieee.Scale for the fraction X / s of units
abbrev pub drops : ℕ → ℕ → ℕ
drops X s = size (X / s) - 24

abbrev pub rounded : ℕ → ℕ → ℕ
rounded X s = closest X (s * 2 ^ drops X s) * 2 ^ drops X s

-- X is to n * s as G is to n, for each whole number n; 2 ^ 149 units are 1
pub record Agree (X G s : ℕ) : Type 0 where
  pub le_iff : (n : ℕ) → (n * (s * 2 ^ 149) ≤ X) ↔ (n * 2 ^ 149 ≤ G)
  pub lt_iff : (n : ℕ) → (n * (s * 2 ^ 149) < X) ↔ (n * 2 ^ 149 < G)

-- ---- the same side

-- G * s is within h of X, where h is half of a step d, times s
record Near (X G s d h : ℕ) : Type 0 where
  h_pos : 0 < h
  step : d * s ≡ h + h
  up : G * s ≤ X + h
  down : X ≤ G * s + h

module _ {X G s d h : ℕ} (near : Near X G s d h) (N : ℕ) where
  above_rounded : G + d ≤ N → X < N * s
  above_rounded l = let p : (G + d) * s ≤ N * s = mul-le-mul_right s l in let q : (G + d) * s ≡ G * s + d * s = add-mul G d s in omega arith

  below_rounded : N + d ≤ G → N * s < X
  below_rounded l = let p : (N + d) * s ≤ G * s = mul-le-mul_right s l in let q : (N + d) * s ≡ N * s + d * s = add-mul N d s in omega arith

  above_exact : X + h < N * s → G < N
  above_exact l = lt_of_mul-lt-mul_right s (omega arith)

  below_exact : N * s + h < X → N < G
  below_exact l = lt_of_mul-lt-mul_right s (omega arith)

halved : (r X g b h : ℕ) → r ≡ g → b ≡ h + h → (2 * g ≤ 2 * X + b) × (2 * X ≤ 2 * g + b) → (r ≤ X + h) × (X ≤ r + h)
halved r X g b h e f w = (omega arith, omega arith)

-- ---- X has at most 24 digits before its closing zeros and is at most 2 ^ 20, and X / s has 25 digits at least
module _ (X s q j : ℕ) (S : 0 < s) (Q : q < 2 ^ 24) (e : X ≡ q * 2 ^ j) (top : X ≤ 2 ^ 169) (bot : 2 ^ 24 * s ≤ X) where
  -- `drops` is one more, so half a step times s is a whole number too
  fewer : ℕ
  fewer = size (X / s) - 25

  half : ℕ
  unfolding fewer
  half = s * 2 ^ fewer

  wide : 24 < size (X / s)
  wide = lt_of_not-le (λ (g : size (X / s) ≤ 24). not-le_of_lt (lt_of_lt_of_le (size-lt (X / s)) (pow_mono g)) ((le-div_iff_mul-le S).1 bot))

  drops_is : drops X s ≡ suc fewer
  unfolding fewer
  drops_is = let w = wide in omega arith

  step_is : 2 ^ drops X s * s ≡ half + half
  unfolding half
  step_is = mul_comm (2 ^ drops X s) s ∙ ap (λ (x : ℕ). s * 2 ^ x) drops_is ∙ ap (λ (x : ℕ). s * x) (two-pow-succ fewer) ∙ mul-add s (2 ^ fewer) (2 ^ fewer)

  half_pos : 0 < half
  unfolding half
  half_pos = mul-pos S (pow_pos fewer)

  half_le : 2 ^ 24 * half ≤ X
  unfolding half fewer
  half_le =
      let r : 2 ^ (24 + fewer) ≤ X / s = size_reaches (X / s) (24 + fewer) (let w = wide in omega arith) in
      let m : 2 ^ 24 * (s * 2 ^ fewer) ≡ 2 ^ (24 + fewer) * s = simp (mul_assoc, mul_comm, pow-add) in
      le_trans (le_of_eq m) ((le-div_iff_mul-le S).0 r)

  half_lt_j : half < 2 ^ j
  half_lt_j = lt_of_mul-lt-mul_left (2 ^ 24) (lt_of_le_of_lt half_le (subst (λ (x : ℕ). x < 2 ^ 24 * 2 ^ j) (sym e) (mul-lt-mul_of_pos_right Q (pow_pos j))))

  half_lt : half < 2 ^ 149
  half_lt = lt_of_mul-lt-mul_left (2 ^ 24) (lt_of_le_of_lt half_le (lt_of_le_of_lt top (lit< tt)))

  -- a step is at most 1, so each whole number is a multiple of it
  drops_le : drops X s ≤ 149
  unfolding half
  drops_le = subst (λ (x : ℕ). x ≤ 149) (sym drops_is) (lt_of_not-le (λ (g : 149 ≤ fewer). not-le_of_lt half_lt (le_trans (pow_mono g) power_le)))
    where
      power_le : 2 ^ fewer ≤ s * 2 ^ fewer
      power_le = le_trans (le-mul_of_pos_right (2 ^ fewer) S) (le_of_eq (mul_comm (2 ^ fewer) s))

  near : Near X (rounded X s) s (2 ^ drops X s) half
  near =
      let b = s * 2 ^ drops X s in
      let g = closest X b in
      let r : rounded X s * s ≡ g * b = mul_assoc g (2 ^ drops X s) s ∙ ap (λ (x : ℕ). g * x) (mul_comm (2 ^ drops X s) s) in
      let w = halved (rounded X s * s) X (g * b) b half r (mul_comm s (2 ^ drops X s) ∙ step_is) (closest_within X b (mul-pos S (pow_pos (drops X s)))) in
      record { h_pos = half_pos; step = step_is; up = w.0; down = w.1 }

  module _ (n : ℕ) where
    scaled : n * (s * 2 ^ 149) ≡ n * 2 ^ 149 * s
    scaled = simp (mul_assoc, mul_comm)

    whole : n * 2 ^ 149 ≡ n * 2 ^ (149 - drops X s) * 2 ^ drops X s
    whole = multiple n 149 (drops X s) drops_le

    above_to : rounded X s < n * 2 ^ 149 → X < n * (s * 2 ^ 149)
    above_to l = rw scaled (above_rounded near (n * 2 ^ 149) (apart (closest X (s * 2 ^ drops X s)) (n * 2 ^ (149 - drops X s)) (2 ^ drops X s) refl whole l))

    above_from : X < n * (s * 2 ^ 149) → rounded X s < n * 2 ^ 149
    above_from l = above_exact near (n * 2 ^ 149) (rw scaled at (gap q j (n * s) 149 half e (sym (mul_assoc n s (2 ^ 149))) half_lt_j half_lt l))

    below_to : n * 2 ^ 149 < rounded X s → n * (s * 2 ^ 149) < X
    below_to l = rw scaled (below_rounded near (n * 2 ^ 149) (apart (n * 2 ^ (149 - drops X s)) (closest X (s * 2 ^ drops X s)) (2 ^ drops X s) whole refl l))

    below_from : n * (s * 2 ^ 149) < X → n * 2 ^ 149 < rounded X s
    below_from l = below_exact near (n * 2 ^ 149) (rw scaled at (gap (n * s) 149 q j half (sym (mul_assoc n s (2 ^ 149))) e half_lt half_lt_j l))

  pub agree : Agree X (rounded X s) s
  agree = record { le_iff = λ n. (contra (above_to n), contra (above_from n)); lt_iff = λ n. (below_from n, below_to n) }
    where
      contra : {a b c d : ℕ} → (a < b → c < d) → d ≤ c → b ≤ a
      contra {a} {b} f h = elim (lt_or_ge a b) [ inl l ↦ absurd (not-le_of_lt (f l) h) | inr l ↦ l ]
