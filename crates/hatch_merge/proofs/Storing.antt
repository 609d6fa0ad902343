-- The records that the second list adds: found one after the other, and records stored one after the other.
use mathlib.Core.Path.{◌≡◌, sym, ap, ◌∙◌, subst}
use mathlib.Core.Bool.{Bool, true, false, cond, not}
use mathlib.Core.List.{List, [], ◌∷◌, ◌++◌, append-nil, map}
use Prim.Native.Nat.{ℕ, ◌+◌, ◌*◌, ◌<◌, ◌≤◌}
use native.Mathlib.Omega.{arith}
use lib.ListN.{length, get_or, set, take, length-map, length-set}
use lib.Seq.{sets, take-append-add}
use borrow.Rule.Slice.PartMut.{put_mid}
use Rattle.std.specs.List.{list_any, All}
use Rattle.std.proofs.lemmas.List.{get_or-append-add, map-append, take_all, take_more_set}
use Rattle.std.proofs.lemmas.List.Elements.{All-push}
use Rattle.std.proofs.lemmas.Bool.{not-true, not-false}
use Rattle.lists.proofs.Entries.{get_d_mapped}
use Rattle.lists.proofs.Fill.{part_stored}
use Rattle.hatch_encode.proofs.Joined.{stored_more}
use Rattle.hatch_merge.specs.Merged.{added}
use Rattle.hatch_merge.specs.Records.{same_bits}
use Rattle.hatch_merge.specs.Parts.{all_of, numbered, Adds, flat}
use Rattle.hatch_merge.specs.declared.both.Both.{Both}
use Rattle.hatch_merge.proofs.Added.{first_added, added_next}
use Rattle.hatch_merge.proofs.Chunks.{Wide, each_wide}

-- ---- the records that the second list adds

module _ (both : Both) where
  abbrev xs : List (List ℕ)
  xs = both.first.now

  abbrev ys : List (List ℕ)
  ys = both.second.now

  -- whether record j of the second list is added
  abbrev pub is_added_of : ℕ → Bool
  is_added_of j = not (list_any (same_bits (get_or both.second.now j [])) (both.first.now ++ take j both.second.now))

  -- by the search in both lists
  pub added_by : (j : ℕ) {t : Bool} → t ≡ list_any (same_bits (get_or (all_of both) (length xs + j) [])) (take (length xs + j) (all_of both))
      → not t ≡ is_added_of j
  added_by j e =
      ap not
      (e
      ∙ ap (λ (x : List ℕ). list_any (same_bits x) (take (length xs + j) (xs ++ ys))) (get_or-append-add xs ys j [])
      ∙ ap (list_any (same_bits (get_or ys j []))) (take-append-add xs ys j))

  -- of the first j records `count` are added, those with these numbers
  pub record Listed (j count : ℕ) (numbers : List ℕ) : Type 0 where
    pub few : count ≤ j
    pub long : length numbers ≡ 2000
    pub inside : All (λ (i : ℕ). i < length both.second.now) (take count numbers)
    pub are : numbered both.second.now (take count numbers) ≡ first_added same_bits both.first.now both.second.now [] j

  next : (j : ℕ) → j < length ys → (t : Bool) → list_any (same_bits (get_or ys j [])) (xs ++ take j ys) ≡ t
      → first_added same_bits xs ys [] (j + 1) ≡ first_added same_bits xs ys [] j ++ cond t [] (get_or ys j [] ∷ [])
  next j h t e = added_next same_bits xs ys [] j h ∙ ap (λ (t : Bool). first_added same_bits xs ys [] j ++ cond t [] (get_or ys j [] ∷ [])) e

  -- one more
  pub listed_more : (j count : ℕ) (numbers : List ℕ) → j < length ys → Listed j count numbers → is_added_of j ≡ true → Listed (j + 1) (count + 1) (set numbers count j)
  listed_more j count numbers h v e =
      let at : ℕ → List ℕ = λ (j : ℕ). get_or ys j [] in
      let one : take (count + 1) (set numbers count j) ≡ take count numbers ++ (j ∷ []) =
      let few = v.few in take_more_set numbers count j (omega (arith, v.long, h, both.seconds)) in
      record {
        few = let few = v.few in omega arith;
        long = length-set numbers count j ∙ v.long;
        inside = subst (All (λ (i : ℕ). i < length both.second.now)) (sym one) (All-push (λ (i : ℕ). i < length both.second.now) (take count numbers) j v.inside h);
        are =
            ap (map at) one
            ∙ map-append at (take count numbers) (j ∷ [])
            ∙ ap (λ (s : List (List ℕ)). s ++ (at j ∷ [])) v.are
            ∙ sym (next j h false (not-true (list_any (same_bits (at j)) (xs ++ take j ys)) e));
      }

  -- none more
  pub listed_same : (j count : ℕ) (numbers : List ℕ) → j < length ys → Listed j count numbers → is_added_of j ≡ false → Listed (j + 1) count numbers
  listed_same j count numbers h v e = record {
    few = let few = v.few in omega arith;
    long = v.long;
    inside = v.inside;
    are =
        v.are
        ∙ sym (next j h true (not-false (list_any (same_bits (get_or ys j [])) (xs ++ take j ys)) e) ∙ append-nil (first_added same_bits xs ys [] j));
  }

  pub listed_all : (j count : ℕ) (numbers : List ℕ) → length ys ≤ j → Listed j count numbers → Adds both (take count numbers)
  listed_all j count numbers h v = record { inside = v.inside; are = v.are ∙ ap (added same_bits both.first.now) (take_all j both.second.now h) }

-- ---- records of 32 bytes, stored one after the other

module _ (rs : List (List ℕ)) (wide : All Wide rs) where
  pub stored_next : (l : List ℕ) (at i start k : ℕ) (l' r : List ℕ) → i < length rs → start ≡ at + 32 * i → k ≡ 32 → r ≡ get_or rs i []
      → l' ≡ sets l at (flat (take i rs)) → start + 32 ≤ length l' → put_mid start k l' r ≡ sets l at (flat (take (i + 1) rs))
  stored_next l at i start k l' r h place size is stored room =
      rw (is, place, stored)
      (part_stored (at + 32 * i) k (sets l at (flat (take i rs))) (get_or rs i []) (size ∙ sym (wide i [] h)) (omega (arith, wide i [] h, place, ap length stored, room))
      ∙ stored_more (λ (r : List ℕ). r) 32 [] rs (λ i h. wide i [] h) l at i h)

-- those with numbers
module _ (records : List (List ℕ)) (wide : All Wide records) (numbers : List ℕ) (inside : All (λ (j : ℕ). j < length records) numbers) where
  pub numbered_at : (i : ℕ) → i < length numbers → get_or (numbered records numbers) i [] ≡ get_or records (get_or numbers i 0) []
  numbered_at i h = get_d_mapped (λ (j : ℕ). get_or records j []) [] 0 numbers i h

  pub numbered_wide : All Wide (numbered records numbers)
  numbered_wide =
      each_wide (numbered records numbers)
      λ i h.
      let few : i < length numbers = omega (arith, h, length-map numbers (λ (j : ℕ). get_or records j [])) in
      ap length (numbered_at i few) ∙ wide (get_or numbers i 0) [] (inside i 0 few)
