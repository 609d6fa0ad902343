-- `merged` is a merge.
use mathlib.Core.Path.{◌≡◌, refl, sym, ◌∙◌, subst}
use mathlib.Core.Bool.{Bool}
use mathlib.Core.List.{List, ◌++◌}
use Prim.Native.Nat.{ℕ, ◌+◌, ◌-◌, ◌<◌, ◌≤◌}
use native.Mathlib.Omega.{arith}
use native.Mathlib.Decide.{dec_le}
use lib.ListN.{length, get_or, length-append, get_or-append}
use lib.Seq.{take_at}
use Rattle.std.proofs.Common.{◌⊎◌, inl, inr, ⊎_elim}
use Rattle.std.proofs.lemmas.Bool.{cases_order}
use Rattle.std.proofs.lemmas.List.{get_or-append_right, get_or-append-add}
use Rattle.std.proofs.lemmas.List.Elements.{Contains-append_left, Contains-append_right, Contains-append_cases}
use Rattle.std.specs.Bool.{Decides}
use Rattle.std.specs.List.{Contains}
use Rattle.hatch_merge.specs.Merged.{added, merged}
use Rattle.hatch_merge.specs.IsMerge.{StandsOnce, Before, IsMerge, Merges}
use Rattle.hatch_merge.proofs.Added.{fresh, added_there, added_or_before, added_apart, added_order}

module _ {A : Type 0} (same : A → A → Bool) (decides : (x y : A) → Decides (same x y) (x ≡ y)) (xs ys : List A) where
  abbrev more : List A
  more = added same xs ys

  all_kept : (x : A) → Contains xs x ⊎ Contains ys x → Contains (xs ++ more) x
  all_kept x s =
      ⊎_elim (λ c. Contains-append_left xs more x c)
      (λ c. ⊎_elim (λ a. Contains-append_left xs more x a) (λ b. Contains-append_right xs more x b) (added_or_before same decides xs ys x c)) s

  all_there : (x : A) → Contains (xs ++ more) x → Contains xs x ⊎ Contains ys x
  all_there x c = ⊎_elim (λ a. inl a) (λ b. inr (added_there same decides xs ys x b)) (Contains-append_cases xs more x c)

  -- an entry that the first list lacks stands behind it
  behind : (x : A) → (Contains xs x → ⊥) → (k : ℕ) → get_or (xs ++ more) k x ≡ x → k < length (xs ++ more) → length xs ≤ k
  behind x lacks k is inside = elim (dec_le (length xs) k) [
    | yes a ↦ a
    | no b ↦ absurd (lacks (k, omega arith, sym (get_or-append xs more x k (omega arith)) ∙ is))
  ]

  once_there : (x : A) → Contains ys x → (Contains xs x → ⊥) → StandsOnce (xs ++ more) x
  once_there x c lacks = ⊎_elim (λ a. absurd (lacks a)) (λ b. found b) (added_or_before same decides xs ys x c)
    where
      found : Contains more x → StandsOnce (xs ++ more) x
      found (p, h, is) = record {
        place = length xs + p;
        inside = omega (arith, length-append xs more, h);
        there = get_or-append-add xs more p x ∙ is;
        alone = λ k g e. let far = behind x lacks k e g in one k far g e;
      }
        where
          one : (k : ℕ) → length xs ≤ k → k < length (xs ++ more) → get_or (xs ++ more) k x ≡ x → k ≡ length xs + p
          one k far g e =
              let q = k - length xs in
              let at : get_or more (k - length xs) x ≡ x = sym (get_or-append_right xs more (length xs) k x refl far) ∙ e in
              let few : k - length xs < length more = omega (arith, length-append xs more, g, far) in
              let same_place : k - length xs ≡ p =
              ⊎_elim (λ s. s)
              (λ s. ⊎_elim (λ l. absurd (added_apart same decides xs ys (k - length xs) p x l h (at ∙ sym is))) (λ l. absurd (added_apart same decides xs ys p (k - length xs) x l few (is ∙ sym at))) s)
              (cases_order (k - length xs) p) in
              omega (arith, same_place, far)

  none_of_first : (d : A) (i : ℕ) → length xs ≤ i → i < length (xs ++ more) → Contains xs (get_or (xs ++ more) i d) → ⊥
  none_of_first d i far h c =
      let few : i - length xs < length more = omega (arith, length-append xs more) in
      fresh same decides xs ys (i - length xs) d few (subst (λ (x : A). Contains xs x) (get_or-append_right xs more (length xs) i d refl far) c)

  in_order : (d : A) (i j : ℕ) → length xs ≤ i → i < j → j < length (xs ++ more) → Before ys (get_or (xs ++ more) i d) (get_or (xs ++ more) j d)
  in_order d i j far l h =
      let few : j - length xs < length more = omega (arith, length-append xs more) in
      let at = added_order same decides xs ys (i - length xs) (j - length xs) d (omega arith) few in
      let ei = get_or-append_right xs more (length xs) i d refl far in
      let ej = get_or-append_right xs more (length xs) j d refl (omega arith) in
      subst (λ (x : A). Before ys x (get_or (xs ++ more) j d)) (sym ei) (subst (λ (y : A). Before ys (get_or more (i - length xs) d) y) (sym ej) at)

  is_merge : IsMerge xs ys (merged same xs ys)
  is_merge = record {
    first = take_at xs more (length xs) refl;
    all = λ x. (all_there x, all_kept x);
    once = once_there;
    behind = none_of_first;
    order = in_order;
  }

pub merges : Merges
merges A same decides xs ys = is_merge same decides xs ys
