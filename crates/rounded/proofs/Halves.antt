-- Numbers counted from the base, so that none is negative: a bound on them in halves, and their whole part. What is at most H / 2 is at most
-- a half more once 2 ^ -23 is added and the sum rounded: so is the end of a widened range.
use mathlib.Core.Path.{◌≡◌, refl, sym}
use mathlib.Core.Bool.{Bool, true, false, cond, true≢false}
use Prim.Native.Nat.{ℕ, suc, ◌+◌, ◌-◌, ◌*◌, ◌/◌, ◌^◌, ◌≤◌, ◌<◌}
use native.Mathlib.Nat.{lt_of_lt_of_le, mul_assoc, mul-le-mul_right, le_of_mul-le-mul_right, div-mul-le_self, div-add-mod', mod-lt}
use native.Mathlib.Omega.{arith}
use borrow.Author.Tests.{ltb-true, ltb-false}
use lib.Pow.{shl_lt}
use lib.Dec.{ltb, lit≤}
use lib.Ieee.{Float, nan, inf, fin, binary32, up, down, below, round, neg, sum, add, sub, lt, of_bits}
use lib.Ieee.Fits.{down_pos}
use lib.Ieee.Exact.{HasValue, round_exact}
use Rattle.float.specs.Rounded.{◌⊕◌, ◌⊖◌, epsilon}
use Rattle.float.proofs.Negated.{neg_round}
use Rattle.rounded.specs.Size.{Size}
use Rattle.rounded.proofs.Round.{MagOver, round_over}
use Rattle.rounded.proofs.Step.{base, Past}
use Rattle.rounded.proofs.Apart.{sub_mul}

-- ---- counted from the base

-- ±a / c counted from the base, in parts of 1 / c; what lies below the base counts as 0
abbrev pub counted : Bool → ℕ → ℕ → ℕ
counted false a c = base * c + a
counted true a c = base * c - a

-- x is finite and at most H / 2, counted from the base
abbrev pub Half : ℕ → Float → Type 0
Half H nan = ⊥
Half H (inf t) = ⊥
Half H (fin s m e) = counted s (m * up e) (down e) * 2 ≤ H * down e

-- and so at most what is more than H / 2
pub half_wider : (H K : ℕ) (x : Float) → H ≤ K → Half H x → Half K x
half_wider H K nan l h = h
half_wider H K (inf s) l h = h
half_wider H K (fin s m e) l h = let k : H * down e ≤ K * down e = mul-le-mul_right (down e) l in omega arith

-- a / E is at most H / 2, and b / F at most D more than a / E
pub half_further : (a E b F H D : ℕ) → 0 < E → a * 2 ≤ H * E → b * E ≤ a * F + D * (E * F) → b * 2 ≤ (H + D * 2) * F
half_further a E b F H D P h k =
    let g : a * 2 * F ≤ H * E * F = mul-le-mul_right F h in
    let l : b * 2 * E ≤ (H + D * 2) * F * E = omega arith in
    le_of_mul-le-mul_right l P

-- ---- in the order of floats

-- ±b / d is not below ±a / c, so it counts no less
counted_not : (s : Bool) (a c : ℕ) (t : Bool) (b d : ℕ) → below t (b * c) s (a * d) ≡ false → counted s a c * d ≤ counted t b d * c
counted_not false a c false b d h = omega (arith, ltb-false (b * c) (a * d) h)
counted_not true a c true b d h = omega (arith, ltb-false (a * d) (b * c) h, sub_mul (base * c) a d, sub_mul (base * d) b c)
counted_not true a c false b d h = omega (arith, sub_mul (base * c) a d)
counted_not false a c true b d h = omega (arith, ltb-false 0 (b * c + a * d) h, sub_mul (base * d) b c)

-- x is at least j, and not above y, which is at most H / 2: so j is
pub past_half : (j H : ℕ) (x y : Float) → Past j x → lt y x ≡ false → Half H y → j * 2 ≤ H
unfolding lt
past_half j H nan y p t h = absurd p
past_half j H (inf s) y p t h = absurd p
past_half j H (fin s m e) nan p t h = absurd h
past_half j H (fin s m e) (inf u) p t h = absurd h
past_half j H (fin s m e) (fin u n d) p t h =
    let i = counted_not s (m * up e) (down e) u (n * up d) (down d) t in
    let k = half_further (counted u (n * up d) (down d)) (down d) (counted s (m * up e) (down e)) (down e) H 0 (down_pos d) h (omega arith) in
    let l : j * 2 * down e ≤ H * down e = omega (arith, at_least s p) in
    le_of_mul-le-mul_right l (down_pos e)
  where
    at_least : (s : Bool) → Past j (fin s m e) → j * down e ≤ counted s (m * up e) (down e)
    at_least false p = p
    at_least true p = omega arith

-- ---- rounded

-- p halves are an f32
half_exact : (p : ℕ) → p < 2 ^ 24 → HasValue (round binary32 false p 2) false p 2
half_exact p h = round_exact binary32 false p 2 p 148 (lit≤ tt) h (lt_of_lt_of_le (shl_lt 24 148 h) (lit≤ tt)) (sym (mul_assoc p (2 ^ 148) 2))

-- a / c is from p / 2 to q / 2 in size, so what it rounds to is too; and where all of that size, with the sign s, are at most H / 2, it is
round_between :
    (s : Bool) (a c p q H : ℕ) → 0 < c → p < 2 ^ 24 → q < 2 ^ 24 → p * c ≤ a * 2 → a * 2 ≤ q * c →
    ((b d : ℕ) → p * d ≤ b * 2 → b * 2 ≤ q * d → counted s b d * 2 ≤ H * d) → Half H (round binary32 s a c)
round_between s a c p q H C small top lo hi all =
    go (round binary32 s a c) (round_over 2 a c p q (lit≤ tt) C (half_exact p small) (half_exact q top) lo hi s)
  where
    go : (x : Float) → MagOver 2 s p q x → Half H x
    go nan h = h
    go (inf t) h = h
    go (fin t m e) h = rw h.0 (all (m * up e) (down e) h.1 h.2)

-- what is at most H / 2 rounds to what is at most H / 2
round_half : (s : Bool) (a c H : ℕ) → 0 < c → a ≤ base * c → H < 2 ^ 24 → counted s a c * 2 ≤ H * c → Half H (round binary32 s a c)
round_half true a c H C z top h =
    round_between true a c (base * 2 - H) (base * 2) H C (omega arith) (lit≤ tt) (omega (arith, sub_mul (base * 2) H c)) (omega arith)
    (λ b d lo hi. omega (arith, sub_mul (base * 2) H d))
round_half false a c H C z top h =
    round_between false a c (base * 2 - H) (H - base * 2) H C (omega arith) (omega arith) (omega (arith, sub_mul (base * 2) H c))
    (omega (arith, sub_mul H (base * 2) c)) (λ b d lo hi. omega (arith, sub_mul (base * 2) H d, sub_mul H (base * 2) d))

-- ---- widened by 2 ^ -23

module _ (M D H : ℕ) (P : 0 < D) (z : M ≤ 65536 * D) (top : suc H < 2 ^ 24) where
  -- M / D + 2 ^ -23
  upward : counted false M D * 2 ≤ H * D → Half (suc H) (round binary32 false (M * 8388608 + 1 * D) (D * 8388608))
  upward h = round_half false _ _ _ (omega arith) (omega arith) top (omega arith)

  -- -M / D + 2 ^ -23, which is (B - A) / C: v is whether it is above zero, and w its sign if it is not; a zero has either sign
  across :
      counted true M D * 2 ≤ H * D →
      let A = M * 8388608 in let B = 1 * D in let C = D * 8388608 in (v w : Bool) → v ≡ ltb A B → (w ≡ false → A ≤ B) →
      Half (suc H) (cond v (round binary32 false (B - A) C) (round binary32 w (A - B) C))
  across h true w p q = round_half false _ _ _ (omega arith) (omega arith) top (omega (arith, ltb-true (M * 8388608) (1 * D) (sym p)))
  across h false true p q = round_half true _ _ _ (omega arith) (omega arith) top (omega arith)
  across h false false p q = round_half false _ _ _ (omega arith) (omega arith) top (omega (arith, q refl))

-- the upper end of a range, widened
pub high_half : (x : Float) (H : ℕ) → Size 65536 x → suc H < 2 ^ 24 → Half H x → Half (suc H) (x ⊕ epsilon)
unfolding of_bits add sum
high_half nan H z top h = absurd z
high_half (inf s) H z top h = absurd z
high_half (fin false m e) H z top h = upward (m * up e) (down e) H (down_pos e) z top h
high_half (fin true m e) H z top h = across (m * up e) (down e) H (down_pos e) z top h _ _ refl (ltb-false _ _)

-- the lower end, widened, seen downwards
pub low_half : (x : Float) (H : ℕ) → Size 65536 x → suc H < 2 ^ 24 → Half H (neg x) → Half (suc H) (neg (x ⊖ epsilon))
unfolding of_bits sub add sum neg
low_half nan H z top h = absurd z
low_half (inf s) H z top h = absurd z
low_half (fin true m e) H z top h = rw (neg_round binary32 true _ _) (upward (m * up e) (down e) H (down_pos e) z top h)
low_half (fin false m e) H z top h =
    rw (inside _ _ _ _) (across (m * up e) (down e) H (down_pos e) z top h _ true refl (λ f. absurd (true≢false f)))
  where
    inside : (v : Bool) (a b c : ℕ) →
        neg (cond v (round binary32 true a c) (round binary32 false b c)) ≡ cond v (round binary32 false a c) (round binary32 true b c)
    inside true a b c = neg_round binary32 true a c
    inside false a b c = neg_round binary32 false b c

-- ---- the whole part

-- the greatest whole number that is not above x, counted from the base; 0 where x lies below the base or is not finite
unfoldable pub whole_part_of : Float → ℕ
whole_part_of nan = 0
whole_part_of (inf s) = 0
whole_part_of (fin s m e) = counted s (m * up e) (down e) / down e

-- x is at least its whole part
pub past_whole : (x : Float) → Past 0 x → Past (whole_part_of x) x
unfolding whole_part_of
past_whole nan h = h
past_whole (inf s) h = h
past_whole (fin false m e) h = div-mul-le_self (counted false (m * up e) (down e)) (down e)
past_whole (fin true m e) h = omega (arith, div-mul-le_self (counted true (m * up e) (down e)) (down e))

-- and at most one more
pub half_whole : (x : Float) → Past 0 x → Half ((whole_part_of x + 1) * 2) x
unfolding whole_part_of
half_whole nan h = h
half_whole (inf s) h = h
half_whole (fin s m e) h = let a = counted s (m * up e) (down e) in omega (arith, div-add-mod' a (down e), mod-lt a (down_pos e))
