-- A walk that is outside its ranges after the most steps has left them by itself.
use mathlib.Core.Path.{◌≡◌, refl, sym, ap, ◌∙◌, subst}
use mathlib.Core.Bool.{Bool, true, false}
use mathlib.Core.Logic.{inl, inr}
use Prim.Native.Nat.{ℕ, zero, suc, ◌+◌, ◌-◌, ◌≤◌, ◌<◌}
use native.Mathlib.Nat.{eq-or-lt_of_le}
use native.Mathlib.Omega.{arith}
use Rattle.stroke.specs.declared.axis.Axis.{Axis}
use Rattle.stroke.specs.Walk.{goes_on, first_outside, most_steps, exit}
use Rattle.stroke.specs.Stops.{Stops}

module _ (a b : Axis) where
  -- from k on, within n steps
  abbrev pub found : ℕ → ℕ → ℕ
  found n k = first_outside a b n (goes_on a b k) k

  pub found_here : (n k : ℕ) → goes_on a b k ≡ false → found n k ≡ k
  unfolding first_outside
  found_here zero k e = refl
  found_here (suc n) k e = ap (λ (t : Bool). first_outside a b (suc n) t k) e

  pub found_later : (n k : ℕ) → goes_on a b k ≡ true → found (suc n) k ≡ found n (suc k)
  unfolding first_outside
  found_later n k e = ap (λ (t : Bool). first_outside a b (suc n) t k) e

  pub found_le : (n k : ℕ) → found n k ≤ k + n
  unfolding first_outside
  found_le zero k = omega arith
  found_le (suc n) k = go (goes_on a b k) (found_le n (suc k))
    where
      go : (t : Bool) → found n (suc k) ≤ suc k + n → first_outside a b (suc n) t k ≤ k + suc n
      go true h = omega arith
      go false h = omega arith

  pub found_ge : (n k : ℕ) → k ≤ found n k
  unfolding first_outside
  found_ge zero k = omega arith
  found_ge (suc n) k = go (goes_on a b k) (found_ge n (suc k))
    where
      go : (t : Bool) → suc k ≤ found n (suc k) → k ≤ first_outside a b (suc n) t k
      go true h = omega arith
      go false h = omega arith

  found_on : (n k i : ℕ) → k ≤ i → i < found n k → goes_on a b i ≡ true
  unfolding first_outside
  found_on zero k i l h = absurd (let z : ⊥ = omega arith in z)
  found_on (suc n) k i l h = go (goes_on a b k) refl h (found_on n (suc k) i)
    where
      go : (t : Bool) → goes_on a b k ≡ t → i < first_outside a b (suc n) t k → (suc k ≤ i → i < found n (suc k) → goes_on a b i ≡ true) → goes_on a b i ≡ true
      go false e h later = absurd (let z : ⊥ = omega arith in z)
      go true e h later = elim (eq-or-lt_of_le l) [
        | inl q ↦ ap (goes_on a b) (sym q) ∙ e
        | inr q ↦ later q h
      ]

  found_out : (n k : ℕ) → goes_on a b (k + n) ≡ false → goes_on a b (found n k) ≡ false
  unfolding first_outside
  found_out zero k o = let e : k + 0 ≡ k = omega arith in subst (λ (i : ℕ). goes_on a b i ≡ false) e o
  found_out (suc n) k o = go (goes_on a b k) refl (found_out n (suc k))
    where
      go : (t : Bool) → goes_on a b k ≡ t → (goes_on a b (suc k + n) ≡ false → goes_on a b (found n (suc k)) ≡ false) → goes_on a b (first_outside a b (suc n) t k) ≡ false
      go false e later = e
      go true e later = let m : k + suc n ≡ suc k + n = omega arith in later (subst (λ (i : ℕ). goes_on a b i ≡ false) m o)

  found_any : (n d k : ℕ) → goes_on a b (found n k) ≡ false → found (n + d) k ≡ found n k
  unfolding first_outside
  found_any zero d k o = let e : 0 + d ≡ d = omega arith in ap (λ (i : ℕ). found i k) e ∙ found_here d k o
  found_any (suc n) d k o =
      let e : suc n + d ≡ suc (n + d) = omega arith in
      ap (λ (i : ℕ). found i k) e ∙ go (goes_on a b k) o (found_any n d (suc k))
    where
      go : (t : Bool) → goes_on a b (first_outside a b (suc n) t k) ≡ false → (goes_on a b (found n (suc k)) ≡ false → found (n + d) (suc k) ≡ found n (suc k))
          → first_outside a b (suc (n + d)) t k ≡ first_outside a b (suc n) t k
      go false o later = refl
      go true o later = later o

  pub exit_le : exit a b ≤ most_steps
  unfolding exit
  exit_le = omega (arith, found_le most_steps 0)

  pub goes_before : (k : ℕ) → k < exit a b → goes_on a b k ≡ true
  unfolding exit
  goes_before k h = found_on most_steps 0 k (omega arith) h

  -- from any position up to it
  pub found_from : (k : ℕ) → k ≤ exit a b → exit a b ≡ found (most_steps - k) k
  unfolding exit
  found_from zero h = refl
  found_from (suc k) h =
      let few : exit a b ≤ most_steps = exit_le in
      let e : most_steps - k ≡ suc (most_steps - suc k) = omega arith in
      found_from k (omega arith) ∙ ap (λ (i : ℕ). found i k) e ∙ found_later (most_steps - suc k) k (found_on most_steps 0 k (omega arith) (omega arith))

  pub stops : goes_on a b most_steps ≡ false → Stops a b
  unfolding exit
  stops o =
      let out = found_out most_steps 0 o in
      record {
        few = exit_le;
        on = λ k h. found_on most_steps 0 k (omega arith) h;
        out = out;
        any_bound = λ n h. let e : n ≡ most_steps + (n - most_steps) = omega arith in ap (λ (i : ℕ). found i 0) e ∙ found_any most_steps (n - most_steps) 0 out;
      }
