-- The entries of a list that are added to others.
use mathlib.Core.Path.{◌≡◌, refl, sym, ap, ◌∙◌, subst}
use mathlib.Core.Bool.{Bool, true, false, cond}
use mathlib.Core.List.{List, [], ◌∷◌, ◌++◌, map, append_assoc, append-nil}
use Prim.Native.Nat.{ℕ, zero, suc, ◌+◌, ◌<◌, ◌≤◌}
use native.Mathlib.Numerals.{add-one}
use native.Mathlib.Omega.{arith}
use native.Mathlib.Decide.{dec_le}
use lib.ListN.{length, get_or, take, length-append}
use Rattle.std.proofs.Common.{◌⊎◌, inl, inr, ⊎_elim}
use Rattle.std.specs.Bool.{Decides}
use Rattle.std.specs.List.{list_any, All, Contains}
use Rattle.std.proofs.lemmas.Bool.{both_ways}
use Rattle.std.proofs.lemmas.List.{map-append, take_more}
use Rattle.std.proofs.lemmas.List.Folds.{list_any_at}
use Rattle.std.proofs.lemmas.List.Elements.{All-nil, All-cons, All-append, All-head, All-tail, All-push, Contains-append_left, Contains-push, Contains-push_cases}
use Rattle.std.proofs.lemmas.Map.Views.{Contains-from_any}
use Rattle.hatch_merge.specs.Merged.{added, merged}
use Rattle.hatch_merge.specs.IsMerge.{Before}

-- one more entry at the end
pub added_more : {A : Type 0} (same : A → A → Bool) (before ys : List A) (y : A)
    → added same before (ys ++ (y ∷ [])) ≡ added same before ys ++ cond (list_any (same y) (before ++ ys)) [] (y ∷ [])
unfolding added
added_more same before [] y =
    append-nil (cond (list_any (same y) before) [] (y ∷ []))
    ∙ ap (λ (s : List _). cond (list_any (same y) s) [] (y ∷ [])) (sym (append-nil before))
added_more same before (x ∷ ys) y =
    let one = cond (list_any (same x) before) [] (x ∷ []) in
    ap (λ (s : List _). one ++ s) (added_more same (before ++ (x ∷ [])) ys y)
    ∙ ap (λ (s : List _). one ++ (added same (before ++ (x ∷ [])) ys ++ cond (list_any (same y) s) [] (y ∷ []))) (append_assoc before (x ∷ []) ys)
    ∙ sym (append_assoc one (added same (before ++ (x ∷ [])) ys) (cond (list_any (same y) (before ++ (x ∷ ys))) [] (y ∷ [])))

-- of the first entries of a list
module _ {A : Type 0} (same : A → A → Bool) (before ys : List A) (d : A) where
  abbrev pub first_added : ℕ → List A
  first_added j = added same before (take j ys)

  pub added_next : (j : ℕ) → j < length ys
      → first_added (j + 1) ≡ first_added j ++ cond (list_any (same (get_or ys j d)) (before ++ take j ys)) [] (get_or ys j d ∷ [])
  added_next j h = ap (added same before) (take_more ys j d h) ∙ added_more same before (take j ys) (get_or ys j d)

  -- the first j add no more than the first n
  pub added_fewer : (j n : ℕ) → j ≤ n → n ≤ length ys → length (first_added j) ≤ length (first_added n)
  added_fewer j zero h g = let e : j ≡ 0 = omega arith in omega (arith, ap (λ (k : ℕ). length (first_added k)) e)
  added_fewer j (suc n) h g = elim (dec_le j n) [
    | yes a ↦
        omega (
          arith,
          added_fewer j n a (omega arith),
          ap length (ap first_added (add-one n)),
          ap length (added_next n (omega arith)),
          length-append (first_added n) (cond (list_any (same (get_or ys n d)) (before ++ take n ys)) [] (get_or ys n d ∷ [])),
        )
    | no b ↦ let e : j ≡ suc n = omega arith in omega (arith, ap (λ (k : ℕ). length (first_added k)) e)
  ]

-- what holds of each entry holds of each that is added
pub added_all : {A : Type 0} (same : A → A → Bool) (P : A → Type 0) (before ys : List A) → All P ys → All P (added same before ys)
unfolding added
added_all same P before [] all = All-nil P
added_all same P before (y ∷ ys) all =
    All-append P (cond (list_any (same y) before) [] (y ∷ [])) (added same (before ++ (y ∷ [])) ys) (one (list_any (same y) before)) (added_all same P (before ++ (y ∷ [])) ys (All-tail P y ys all))
  where
    one : (t : Bool) → All P (cond t [] (y ∷ []))
    one true = All-nil P
    one false = All-cons P y [] (All-head P y ys all) (All-nil P)

-- through f, where the tests agree
module _ {A B : Type 0} (f : A → B) (same : A → A → Bool) (alike : B → B → Bool) (P : A → Type 0) (agree : (x y : A) → P x → P y → alike (f x) (f y) ≡ same x y) where
  any_mapped : (y : A) (s : List A) → P y → All P s → list_any (alike (f y)) (map f s) ≡ list_any (same y) s
  any_mapped y [] p all = refl
  any_mapped y (x ∷ s) p all = rw (agree y x p (All-head P x s all), any_mapped y s p (All-tail P x s all)) refl

  pub added_mapped : (before ys : List A) → All P before → All P ys → added alike (map f before) (map f ys) ≡ map f (added same before ys)
  unfolding added
  added_mapped before [] p q = refl
  added_mapped before (y ∷ ys) p q =
      let py = All-head P y ys q in
      let one = cond (list_any (same y) before) [] (f y ∷ []) in
      ap (λ (t : Bool). cond t [] (f y ∷ []) ++ added alike (map f before ++ (f y ∷ [])) (map f ys)) (any_mapped y before py p)
      ∙ ap (λ (s : List B). one ++ added alike s (map f ys)) (sym (map-append f before (y ∷ [])))
      ∙ ap (λ (s : List B). one ++ s) (added_mapped (before ++ (y ∷ [])) ys (All-push P before y p py) (All-tail P y ys q))
      ∙ by (list_any (same y) before)
    where
      by : (t : Bool) → cond t [] (f y ∷ []) ++ map f (added same (before ++ (y ∷ [])) ys) ≡ map f (cond t [] (y ∷ []) ++ added same (before ++ (y ∷ [])) ys)
      by true = refl
      by false = refl

  pub merged_mapped : (xs ys : List A) → All P xs → All P ys → merged alike (map f xs) (map f ys) ≡ map f (merged same xs ys)
  merged_mapped xs ys p q = ap (λ (s : List B). map f xs ++ s) (added_mapped xs ys p q) ∙ sym (map-append f xs (added same xs ys))

module _ {A : Type 0} (same : A → A → Bool) (decides : (x y : A) → Decides (same x y) (x ≡ y)) where
  pub among : (y : A) (s : List A) → list_any (same y) s ≡ true → Contains s y
  among y s h = Contains-from_any {eq = same} (λ a b. (decides a b).0) y s h

  pub not_among : (y : A) (s : List A) → list_any (same y) s ≡ false → Contains s y → ⊥
  not_among y s e c = both_ways (list_any (same y) s) e (list_any_at (same y) s c.0 y c.1 ((decides y (get_or s c.0 y)).1 (sym c.2)))

  -- what is added is not among the ones before
  pub fresh : (before ys : List A) (j : ℕ) (d : A) → j < length (added same before ys) → Contains before (get_or (added same before ys) j d) → ⊥
  unfolding added
  fresh before [] j d h c = absurd (omega arith)
  fresh before (y ∷ ys) j d h c = go (list_any (same y) before) refl j h c (fresh (before ++ (y ∷ [])) ys)
    where
      go : (t : Bool) → list_any (same y) before ≡ t → (j : ℕ) → j < length (cond t [] (y ∷ []) ++ added same (before ++ (y ∷ [])) ys)
          → Contains before (get_or (cond t [] (y ∷ []) ++ added same (before ++ (y ∷ [])) ys) j d)
          → ((j : ℕ) (d : A) → j < length (added same (before ++ (y ∷ [])) ys) → Contains (before ++ (y ∷ [])) (get_or (added same (before ++ (y ∷ [])) ys) j d) → ⊥)
          → ⊥
      go true e j h c later = later j d h (Contains-append_left before (y ∷ []) _ c)
      go false e zero h c later = not_among y before e c
      go false e (suc j) h c later = later j d (omega arith) (Contains-append_left before (y ∷ []) _ c)

  -- the parts of a list that begins with y, by whether y is added
  module _ (y : A) (before ys : List A) where
    abbrev rest : List A
    rest = added same (before ++ (y ∷ [])) ys

    -- what comes later is not y
    pub later_other : (j : ℕ) (d : A) → j < length rest → get_or rest j d ≡ y → ⊥
    later_other j d h e = fresh (before ++ (y ∷ [])) ys j d h (subst (Contains (before ++ (y ∷ []))) (sym e) (Contains-push before y))

  -- what is added is of the list
  pub added_there : (before ys : List A) (x : A) → Contains (added same before ys) x → Contains ys x
  unfolding added
  added_there before [] x c = c
  added_there before (y ∷ ys) x c = go (list_any (same y) before) refl c.0 c.1 c.2 (added_there (before ++ (y ∷ [])) ys x)
    where
      go : (t : Bool) → list_any (same y) before ≡ t → (k : ℕ) → k < length (cond t [] (y ∷ []) ++ added same (before ++ (y ∷ [])) ys)
          → get_or (cond t [] (y ∷ []) ++ added same (before ++ (y ∷ [])) ys) k x ≡ x → (Contains (added same (before ++ (y ∷ [])) ys) x → Contains ys x)
          → Contains (y ∷ ys) x
      go true e k h is later = let r = later (k, h, is) in (suc r.0, omega (arith, r.1), r.2)
      go false e zero h is later = (0, omega arith, is)
      go false e (suc k) h is later = let r = later (k, omega arith, is) in (suc r.0, omega (arith, r.1), r.2)

  -- what is of the list is added, or among the ones before
  pub added_or_before : (before ys : List A) (x : A) → Contains ys x → Contains before x ⊎ Contains (added same before ys) x
  unfolding added
  added_or_before before [] x (k, h, is) = absurd (omega arith)
  added_or_before before (y ∷ ys) x (k, h, is) = go (list_any (same y) before) refl k h is (added_or_before (before ++ (y ∷ [])) ys x)
    where
      moved : (t : Bool) → Contains before x ⊎ Contains (added same (before ++ (y ∷ [])) ys) x → Contains before x ⊎ Contains (cond t [] (y ∷ []) ++ added same (before ++ (y ∷ [])) ys) x
      moved true s = s
      moved false (inl c) = inl c
      moved false (inr (k, h, is)) = inr (suc k, omega arith, is)

      by : (t : Bool) → list_any (same y) before ≡ t → y ≡ x → Contains before x ⊎ Contains (cond t [] (y ∷ []) ++ added same (before ++ (y ∷ [])) ys) x
      by true e is = inl (subst (Contains before) is (among y before e))
      by false e is = inr (0, omega arith, is)

      split : (t : Bool) → list_any (same y) before ≡ t → Contains (before ++ (y ∷ [])) x → Contains before x ⊎ Contains (cond t [] (y ∷ []) ++ added same (before ++ (y ∷ [])) ys) x
      split t e c = ⊎_elim (λ a. inl a) (λ is. by t e is) (Contains-push_cases before y x c)

      go : (t : Bool) → list_any (same y) before ≡ t → (k : ℕ) → k < length (y ∷ ys) → get_or (y ∷ ys) k x ≡ x
          → (Contains ys x → Contains (before ++ (y ∷ [])) x ⊎ Contains (added same (before ++ (y ∷ [])) ys) x)
          → Contains before x ⊎ Contains (cond t [] (y ∷ []) ++ added same (before ++ (y ∷ [])) ys) x
      go t e zero h is later = by t e is
      go t e (suc k) h is later = ⊎_elim (λ c. split t e c) (λ c. moved t (inr c)) (later (k, omega arith, is))

  -- what is added stands at one place
  pub added_apart : (before ys : List A) (i j : ℕ) (d : A) → i < j → j < length (added same before ys) → get_or (added same before ys) i d ≡ get_or (added same before ys) j d → ⊥
  unfolding added
  added_apart before [] i j d l h e = absurd (omega arith)
  added_apart before (y ∷ ys) i j d l h e = go (list_any (same y) before) refl i j l h e (added_apart (before ++ (y ∷ [])) ys)
    where
      go : (t : Bool) → list_any (same y) before ≡ t → (i j : ℕ) → i < j → j < length (cond t [] (y ∷ []) ++ added same (before ++ (y ∷ [])) ys)
          → get_or (cond t [] (y ∷ []) ++ added same (before ++ (y ∷ [])) ys) i d ≡ get_or (cond t [] (y ∷ []) ++ added same (before ++ (y ∷ [])) ys) j d
          → ((i j : ℕ) (d : A) → i < j → j < length (added same (before ++ (y ∷ [])) ys) → get_or (added same (before ++ (y ∷ [])) ys) i d ≡ get_or (added same (before ++ (y ∷ [])) ys) j d → ⊥)
          → ⊥
      go true x i j l h e later = later i j d l h e
      go false x i zero l h e later = absurd (omega arith)
      go false x zero (suc j) l h e later = later_other y before ys j d (omega arith) (sym e)
      go false x (suc i) (suc j) l h e later = later i j d (omega arith) (omega arith) e

  -- and in the order of the list
  pub added_order : (before ys : List A) (i j : ℕ) (d : A) → i < j → j < length (added same before ys) → Before ys (get_or (added same before ys) i d) (get_or (added same before ys) j d)
  unfolding added
  added_order before [] i j d l h k g is = absurd (omega arith)
  added_order before (y ∷ ys) i j d l h k g is = go (list_any (same y) before) refl i j l h k g is (added_order (before ++ (y ∷ [])) ys)
    where
      go : (t : Bool) → list_any (same y) before ≡ t → (i j : ℕ) → i < j → j < length (cond t [] (y ∷ []) ++ added same (before ++ (y ∷ [])) ys)
          → (k : ℕ) → k < length (y ∷ ys)
          → get_or (y ∷ ys) k (get_or (cond t [] (y ∷ []) ++ added same (before ++ (y ∷ [])) ys) j d) ≡ get_or (cond t [] (y ∷ []) ++ added same (before ++ (y ∷ [])) ys) j d
          → ((i j : ℕ) (d : A) → i < j → j < length (added same (before ++ (y ∷ [])) ys) → Before ys (get_or (added same (before ++ (y ∷ [])) ys) i d) (get_or (added same (before ++ (y ∷ [])) ys) j d))
          → (p : ℕ) × (p < k) × (get_or (y ∷ ys) p (get_or (cond t [] (y ∷ []) ++ added same (before ++ (y ∷ [])) ys) i d) ≡ get_or (cond t [] (y ∷ []) ++ added same (before ++ (y ∷ [])) ys) i d)
      go true x i j l h zero g is later = absurd (later_other y before ys j d h (sym is))
      go true x i j l h (suc k) g is later = let r = later i j d l h k (omega arith) is in (suc r.0, omega (arith, r.1), r.2)
      go false x i zero l h k g is later = absurd (omega arith)
      go false x i (suc j) l h zero g is later = absurd (later_other y before ys j d (omega arith) (sym is))
      go false x zero (suc j) l h (suc k) g is later = (0, omega arith, refl)
      go false x (suc i) (suc j) l h (suc k) g is later = let r = later i j d (omega arith) (omega arith) k (omega arith) is in (suc r.0, omega (arith, r.1), r.2)
