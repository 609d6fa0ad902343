-- The list of tiles rises, and a list that has all its numbers is no shorter.
use mathlib.Core.Path.{◌≡◌, refl, sym, ap}
use mathlib.Core.Logic.{inl, inr}
use mathlib.Core.List.Memᴰ
use mathlib.Core.List.{List, [], ◌∷◌, ◌++◌}
use Prim.Native.Nat.{ℕ, zero, suc, ◌+◌, ◌*◌, ◌≤◌, ◌<◌, zero-le, suc-le-suc}
use native.Mathlib.Nat.{le_refl, le_trans, le_of_eq, le_of_lt, not-suc-le-zero, le_of_suc-le-suc, suc-mul}
use native.Mathlib.Omega.{arith}
use lib.ListN.{length, get_or}
use Rattle.tiles.specs.Cover.{Has}
use Rattle.tiles.specs.Tiles.{run, rows}

-- each number is at least the bound, and the next bound is above it
abbrev pub Rising : ℕ → List ℕ → Type 0
Rising b [] = Unit {0}
Rising b (x ∷ l) = (b ≤ x) × Rising (suc x) l

-- ---- rows of the sheet rise

lower : (a b : ℕ) (l : List ℕ) → a ≤ b → Rising b l → Rising a l
lower a b [] h r = tt
lower a b (x ∷ l) h r = (le_trans h r.0, r.1)

run_rises : (a k : ℕ) (l : List ℕ) → Rising (a + k) l → Rising a (run a k ++ l)
run_rises a zero l r = lower a (a + 0) l (omega arith) r
run_rises a (suc k) l r = (le_refl a, run_rises (suc a) k l (lower (suc a + k) (a + suc k) l (omega arith) r))

pub rows_rise : (w c k r n : ℕ) → k ≤ w → Rising (r * w + c) (rows w c k r n)
rows_rise w c k r zero h = tt
rows_rise w c k r (suc n) h =
    let p : suc r * w ≡ r * w + w = suc-mul r w in
    let l = rows w c k (suc r) n in
    run_rises (r * w + c) k l (lower (r * w + c + k) (suc r * w + c) l (omega arith) (rows_rise w c k (suc r) n h))

-- ---- what a rising list is by its entries and by its members

above : (b : ℕ) (l : List ℕ) → Rising b l → (j : ℕ) → j < length l → b ≤ get_or l j 0
above b [] r j h = absurd (not-suc-le-zero h)
above b (x ∷ l) r zero h = r.0
above b (x ∷ l) r (suc j) h = le_trans r.0 (le_of_lt (above (suc x) l r.1 j (le_of_suc-le-suc h)))

pub rising_at : (b : ℕ) (l : List ℕ) → Rising b l → (i j : ℕ) → i < j → j < length l → get_or l i 0 < get_or l j 0
rising_at b [] r i j h k = absurd (not-suc-le-zero k)
rising_at b (x ∷ l) r i zero h k = absurd (not-suc-le-zero h)
rising_at b (x ∷ l) r zero (suc j) h k = above (suc x) l r.1 j (le_of_suc-le-suc k)
rising_at b (x ∷ l) r (suc i) (suc j) h k = rising_at (suc x) l r.1 i j (le_of_suc-le-suc h) (le_of_suc-le-suc k)

member_above : (b : ℕ) (l : List ℕ) → Rising b l → (t : ℕ) → Has l t → b ≤ t
member_above b [] r t m = absurd (Memᴰ.not-nil m)
member_above b (x ∷ l) r t m = elim (Memᴰ.cases_cons m) [
  | inl e ↦ le_trans r.0 (le_of_eq (sym e))
  | inr d ↦ le_trans r.0 (le_of_lt (member_above (suc x) l r.1 t d))
]

-- ---- no shorter list has all its numbers

-- m without one of its entries, which keeps the greater ones
without : (a : ℕ) (m : List ℕ) → Has m a → (n : List ℕ) × (length m ≡ suc (length n)) × ((t : ℕ) → a < t → Has m t → Has n t)
without a [] d = absurd (Memᴰ.not-nil d)
without a (x ∷ m) d = elim (Memᴰ.cases_cons d) [
  | inl e ↦ (m, refl, λ t h k. elim (Memᴰ.cases_cons k) [ inl f ↦ absurd (no e f h) | inr g ↦ g ])
  | inr g ↦
      let q = without a m g in
      (x ∷ q.0, ap suc q.1, λ t h k. elim (Memᴰ.cases_cons k) [ inl f ↦ Memᴰ.head f | inr l ↦ Memᴰ.tail (q.2 t h l) ])
]
  where
    no : {a x t : ℕ} → a ≡ x → t ≡ x → a < t → ⊥
    no e f h = omega arith

pub no_shorter : (b : ℕ) (l m : List ℕ) → Rising b l → ((t : ℕ) → Has l t → Has m t) → length l ≤ length m
no_shorter b [] m r s = zero-le
no_shorter b (x ∷ l) m r s =
    let q = without x m (s x (Memᴰ.head refl)) in
    let k : length l ≤ length q.0 = no_shorter (suc x) l q.0 r.1 (λ t d. q.2 t (member_above (suc x) l r.1 t d) (s t (Memᴰ.tail d))) in
    le_trans (suc-le-suc k) (le_of_eq (sym q.1))
