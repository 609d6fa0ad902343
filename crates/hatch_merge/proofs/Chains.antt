-- The last record with a hash: a record that is not found along them is none of those before.
use mathlib.Core.Path.{◌≡◌, refl, sym, ap, ◌∙◌, subst}
use mathlib.Core.Bool.{Bool, true, false, cond, or-false, or-true}
use mathlib.Core.List.{List, [], ◌∷◌, ◌++◌}
use Prim.Native.Nat.{ℕ, zero, suc, ◌+◌, ◌<◌, ◌≤◌}
use native.Mathlib.Omega.{arith}
use native.Mathlib.Numerals.{add-one}
use native.Mathlib.Decide.{dec_le}
use lib.Dec.{ltb}
use lib.ListN.{length, get_or, set, take, length-set}
use borrow.Author.Tests.{eq-eqb, lt-ltb, le-ltb}
use Rattle.std.proofs.Common.{⊎_elim, below_more}
use Rattle.std.specs.List.{list_any}
use Rattle.std.proofs.lemmas.List.{take_more, get_or-set_same, get_or-set_other}
use Rattle.std.proofs.lemmas.List.Folds.{list_any-append}
use Rattle.std.proofs.lemmas.Bool.{false_from_ne_true, ne_eqb}
use Rattle.std.proofs.lemmas.Bool.Decides.{eqb_tells}
use Rattle.std.proofs.lemmas.Slice.Eq.{bytes_eq-Decides}
use Rattle.hatch_merge.specs.Records.{same_bits}
use Rattle.hatch_merge.specs.Chains.{bucket_of, last_of}

-- how many records are left for a search that comes to a record: with none, 0
abbrev pub left : ℕ → ℕ
left place = cond (ltb place 4000) (suc place) 0

module _ (records : List (List ℕ)) where
  abbrev hash : ℕ → ℕ
  hash i = bucket_of (get_or records i [])

  -- ---- one record more

  pub last_same : (n bucket : ℕ) → hash n ≡ bucket → last_of records bucket (suc n) ≡ n
  unfolding last_of
  last_same n bucket e = rw (eq-eqb (hash n) bucket e) refl

  pub last_other : (n bucket : ℕ) → (hash n ≡ bucket → ⊥) → last_of records bucket (suc n) ≡ last_of records bucket n
  unfolding last_of
  last_other n bucket other = rw (ne_eqb (hash n) bucket other) refl

  -- ---- looking for a record

  -- whether it is among the first n
  abbrev pub among : List ℕ → ℕ → Bool
  among x n = list_any (same_bits x) (take n records)

  among_more : (x : List ℕ) (n : ℕ) → n < length records → among x (suc n) ≡ list_any (same_bits x) (take n records ++ (get_or records n [] ∷ []))
  among_more x n h = ap (λ (k : ℕ). among x k) (sym (add-one n)) ∙ ap (list_any (same_bits x)) (take_more records n [] h)

  -- where record n is another
  pub among_other : (x : List ℕ) (n : ℕ) → n < length records → same_bits x (get_or records n []) ≡ false → among x (suc n) ≡ among x n
  among_other x n h other =
      among_more x n h ∙ list_any-append (same_bits x) (take n records) (get_or records n [] ∷ []) ∙ rw other (or-false (among x n))

  -- ---- the search: from a record to the last one before it with its hash

  -- Record number `place` has the hash of x, and of the first n records none behind it is x; or there is no such record, and none of them is x.
  pub record Sought (x : List ℕ) (n place : ℕ) : Type 0 where
    pub there : place < 4000 → (place < n) × (hash place ≡ bucket_of x) × (among x (suc place) ≡ among x n)
    pub nowhere : 4000 ≤ place → among x n ≡ false

  -- of two lengths with the same records among them
  longer : (x : List ℕ) (n m place : ℕ) → n ≤ m → among x n ≡ among x m → Sought x n place → Sought x m place
  longer x n m place h e s = record {
    there = λ g. let t = s.there g in let l = t.0 in (omega arith, t.1, t.2 ∙ e);
    nowhere = λ g. sym e ∙ s.nowhere g;
  }

  pub last_sought : (x : List ℕ) (n : ℕ) → n ≤ length records → n ≤ 4000 → Sought x n (last_of records (bucket_of x) n)
  unfolding last_of
  last_sought x zero h few = record { there = λ g. absurd (omega arith); nowhere = λ g. refl }
  last_sought x (suc n) h few =
      ⊎_elim (λ e. subst (Sought x (suc n)) (sym (last_same n (bucket_of x) e.1)) (here e.1))
      (λ e. subst (Sought x (suc n)) (sym (last_other n (bucket_of x) e.1)) (longer x n (suc n) (last_of records (bucket_of x) n) (omega arith) (sym (among_other x n (omega arith) (differs e.1))) (last_sought x n (omega arith) (omega arith))))
      (eqb_tells (hash n) (bucket_of x))
    where
      here : hash n ≡ bucket_of x → Sought x (suc n) n
      here e = record { there = λ g. (omega arith, e, refl); nowhere = λ g. absurd (omega arith) }

      differs : (hash n ≡ bucket_of x → ⊥) → same_bits x (get_or records n []) ≡ false
      differs other = false_from_ne_true _ λ t. other (ap bucket_of (sym ((bytes_eq-Decides x (get_or records n [])).0 t)))

  module _ (x : List ℕ) (n : ℕ) (inside : n < length records) (few : n ≤ 4000) where
    pub from_itself : x ≡ get_or records n [] → Sought x n (last_of records (hash n) n)
    from_itself e = subst (λ (b : ℕ). Sought x n (last_of records b n)) (ap bucket_of e) (last_sought x n (omega arith) few)

    module _ (place : ℕ) (is : place < 4000) (s : Sought x n place) where
      pub within : place < length records
      within = let l = (s.there is).0 in omega arith

      -- from a record that is another
      pub from_other : same_bits x (get_or records place []) ≡ false → Sought x n (last_of records (hash place) place)
      from_other other =
          let t = s.there is in
          let l = t.0 in
          subst (λ (b : ℕ). Sought x n (last_of records b place)) (sym t.1)
          (longer x place n (last_of records (bucket_of x) place) (omega arith) (sym (among_other x place within other) ∙ t.2) (last_sought x place (omega arith) (omega arith)))

      -- or the one that is sought
      pub found : same_bits x (get_or records place []) ≡ true → true ≡ among x n
      found it =
          sym (among_more x place within ∙ list_any-append (same_bits x) (take place records) (get_or records place [] ∷ []) ∙ rw it (or-true (among x place)))
          ∙ (s.there is).2

      -- the search goes back, until there is no record
      pub goes_back : (next : ℕ) → next ≡ last_of records (hash place) place → left next < left place
      goes_back next e =
          let back = last_sought (get_or records place []) place (omega (arith, within)) (omega (arith, is)) in
          let here : left place ≡ suc place = ap (λ (t : Bool). cond t (suc place) 0) (lt-ltb place 4000 is) in
          elim (dec_le 4000 next) [
            | yes none ↦ omega (arith, here, ap (λ (t : Bool). cond t (suc next) 0) (le-ltb next 4000 none))
            | no some ↦
                let few : next < 4000 = omega arith in
                let l = (back.there (subst (λ (p : ℕ). p < 4000) e few)).0 in
                omega (arith, here, ap (λ (t : Bool). cond t (suc next) 0) (lt-ltb next 4000 few), e, l)
          ]

  -- ---- the chains, one record after the other

  -- the first k records are chained, and `last` has the last of them with each hash
  pub record Linked (k : ℕ) (before last : List ℕ) : Type 0 where
    pub chained : (i : ℕ) → i < k → get_or before i 0 ≡ last_of records (hash i) i
    pub ends : (bucket : ℕ) → bucket < 4096 → get_or last bucket 0 ≡ last_of records bucket k
    pub many : length before ≡ 4000
    pub buckets : length last ≡ 4096

  pub linked_next : (k bucket : ℕ) (before last : List ℕ) → Linked k before last → k < 4000 → bucket ≡ hash k → bucket < 4096
      → Linked (k + 1) (set before k (get_or last bucket 0)) (set last bucket k)
  linked_next k bucket before last v inside is there = record {
    chained =
        below_more (λ (i : ℕ). get_or (set before k (get_or last bucket 0)) i 0 ≡ last_of records (hash i) i) k
        (λ i h. get_or-set_other before k i (get_or last bucket 0) 0 (λ s. omega arith) ∙ v.chained i h)
        (get_or-set_same before k (get_or last bucket 0) 0 (omega (arith, inside, v.many)) ∙ v.ends bucket there ∙ ap (λ (b : ℕ). last_of records b k) is);
    ends = λ b h. ⊎_elim (λ e. here b e.1) (λ e. elsewhere b h e.1) (eqb_tells bucket b);
    many = length-set before k (get_or last bucket 0) ∙ v.many;
    buckets = length-set last bucket k ∙ v.buckets;
  }
    where
      here : (b : ℕ) → bucket ≡ b → get_or (set last bucket k) b 0 ≡ last_of records b (k + 1)
      here b e =
          ap (λ (i : ℕ). get_or (set last bucket k) i 0) (sym e)
          ∙ get_or-set_same last bucket k 0 (omega (arith, there, v.buckets))
          ∙ sym (ap (last_of records b) (add-one k) ∙ last_same k b (sym is ∙ e))

      elsewhere : (b : ℕ) → b < 4096 → (bucket ≡ b → ⊥) → get_or (set last bucket k) b 0 ≡ last_of records b (k + 1)
      elsewhere b h other =
          get_or-set_other last bucket b k 0 (λ e. other (sym e))
          ∙ v.ends b h
          ∙ sym (ap (last_of records b) (add-one k) ∙ last_other k b (λ e. other (is ∙ e)))
