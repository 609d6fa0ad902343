-- What a merge of two lists is, for entries of any kind. Definitions only.
use Rattle.std.specs.Prelude.{◌≡◌, ◌⊎◌, ◌↔◌, Bool, List, ℕ, ◌<◌, ◌≤◌, length, get_or, take}
use Rattle.std.specs.Bool.{Decides}
use Rattle.std.specs.List.{Contains}
use Rattle.hatch_merge.specs.Merged.{merged}

-- the list has x at exactly one place
pub record StandsOnce {A : Type 0} (zs : List A) (x : A) : Type 0 where
  pub place : ℕ
  pub inside : place < length zs
  pub there : get_or zs place x ≡ x
  pub alone : (k : ℕ) → k < length zs → get_or zs k x ≡ x → k ≡ place

-- wherever the list has y, it has x at an earlier place
abbrev pub Before : {A : Type 0} → List A → A → A → Type 0
Before {A} ys x y = (k : ℕ) → k < length ys → get_or ys k y ≡ y → (j : ℕ) × (j < k) × (get_or ys j x ≡ x)

-- zs is the merge of xs and ys
pub record IsMerge {A : Type 0} (xs ys zs : List A) : Type 0 where
  -- the first list is kept: its entries stand first, in its order, with its repeats
  pub first : take (length xs) zs ≡ xs
  -- an entry stands in it exactly if it is in one of the two
  pub all : (x : A) → Contains zs x ↔ (Contains xs x ⊎ Contains ys x)
  -- each entry of the second that the first lacks stands once
  pub once : (x : A) → Contains ys x → ¬ (Contains xs x) → StandsOnce zs x
  -- behind the first list stand only entries that it lacks
  pub behind : (d : A) (i : ℕ) → length xs ≤ i → i < length zs → ¬ (Contains xs (get_or zs i d))
  -- and they stand in the order of the second
  pub order : (d : A) (i j : ℕ) → length xs ≤ i → i < j → j < length zs → Before ys (get_or zs i d) (get_or zs j d)

-- whatever the kind of the entries, `merged` is such a merge, if the test decides whether two entries are equal; proved in proofs/Merges.antt
abbrev pub Merges : Type 1
Merges = (A : Type 0) (same : A → A → Bool) → ((x y : A) → Decides (same x y) (x ≡ y)) → (xs ys : List A) → IsMerge xs ys (merged same xs ys)
