-- The decimal digits of a number, and how many there are.
use mathlib.Core.Path.{◌≡◌, refl, sym, ap, ◌∙◌}
use mathlib.Core.Bool.{Bool, true, false, cond}
use mathlib.Core.List.{List, [], ◌∷◌, ◌++◌}
use Prim.Native.Nat.{ℕ, zero, suc, ◌+◌, ◌*◌, ◌/◌, ◌%◌, ◌^◌, ◌<◌, ◌≤◌}
use native.Mathlib.Decide.{dec_le}
use native.Mathlib.Omega.{arith}
use lib.Dec.{ltb}
use lib.ListN.{length, length-append}
use borrow.Author.Tests.{lt-ltb, le-ltb, ltb-false}
use Rattle.std.specs.Fmt as fmt
use Rattle.std.proofs.lemmas.Fmt.{decimal_by_steps}
use Rattle.text.specs.Numbers.{digit, decimal_by, decimal}

cut : (n : ℕ) (s t : List ℕ) (b : Bool) → (b ≡ false → s ≡ t) → cond b (digit n ∷ []) (s ++ (digit (n % 10) ∷ [])) ≡ cond b (digit n ∷ []) (t ++ (digit (n % 10) ∷ []))
cut n s t true e = refl
cut n s t false e = ap (λ (r : List ℕ). r ++ (digit (n % 10) ∷ [])) (e refl)

enough : (k j n : ℕ) → n < k → n < j → decimal_by k n ≡ decimal_by j n
unfolding decimal_by
enough zero j n h g = absurd (omega arith)
enough (suc k) zero n h g = absurd (omega arith)
enough (suc k) (suc j) n h g =
    cut n (decimal_by k (n / 10)) (decimal_by j (n / 10)) (ltb n 10)
    λ e. let m : 10 ≤ n = ltb-false n 10 e in enough k j (n / 10) (omega arith) (omega arith)

pub decimal_one : (n : ℕ) → n < 10 → decimal n ≡ digit n ∷ []
unfolding decimal decimal_by
decimal_one n h = rw (lt-ltb n 10 h)

pub decimal_more : (n : ℕ) → 10 ≤ n → decimal n ≡ decimal (n / 10) ++ (digit (n % 10) ∷ [])
unfolding decimal decimal_by
decimal_more n h = step ∙ ap (λ (t : List ℕ). t ++ (digit (n % 10) ∷ [])) (enough n (suc (n / 10)) (n / 10) (omega arith) (omega arith))
  where
    step : decimal_by (suc n) n ≡ decimal_by n (n / 10) ++ (digit (n % 10) ∷ [])
    step = rw (le-ltb n 10 h)

-- the digits of a number below ten times m are at most one more than those of a number below m
longer : (m j : ℕ) → ((n : ℕ) → n < m → length (decimal n) ≤ j) → (n : ℕ) → n < 10 * m → length (decimal n) ≤ suc j
longer m j h n g = elim (dec_le 10 n) [
  | yes a ↦ omega (arith, ap length (decimal_more n a), length-append (decimal (n / 10)) (digit (n % 10) ∷ []), h (n / 10) (omega arith))
  | no b ↦ omega (arith, ap length (decimal_one n (omega arith)))
]

decimal_1 : (n : ℕ) → n < 10 → length (decimal n) ≤ 1
decimal_1 n h = omega (arith, ap length (decimal_one n h))

pub decimal_4 : (n : ℕ) → n < 10000 → length (decimal n) ≤ 4
decimal_4 = longer 1000 3 (longer 100 2 (longer 10 1 decimal_1))

pub decimal_5 : (n : ℕ) → n < 100000 → length (decimal n) ≤ 5
decimal_5 = longer 10000 4 decimal_4

-- std's decimal digits are these
pub decimal_is : (n : ℕ) → n < 2 ^ 64 → fmt.decimal n ≡ decimal n
decimal_is = decimal_by_steps (λ (n : ℕ) (ds : List ℕ). ds ≡ decimal n)
    (λ n h. ap (λ (d : ℕ). d ∷ []) (sym (digit_is n h)) ∙ sym (decimal_one n h))
    λ n ds h e. ap (λ (d : ℕ). ds ++ (d ∷ [])) (sym (digit_is (n % 10) (omega arith))) ∙ ap (λ (t : List ℕ). t ++ (digit (n % 10) ∷ [])) e ∙ sym (decimal_more n h)
  where
    digit_is : (d : ℕ) → d < 10 → digit d ≡ 48 + d
    digit_is d h = rw (lt-ltb d 10 h)
