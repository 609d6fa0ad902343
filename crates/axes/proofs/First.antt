-- A search for the first element of a list of which a test holds, from place to place.
use mathlib.Core.Path.{◌≡◌, refl, ap, ◌∙◌}
use mathlib.Core.Bool.{Bool, true, false, not, cond, ◌||◌}
use mathlib.Core.List.{List, [], ◌∷◌}
use Prim.Native.Nat.{ℕ, ◌+◌, ◌≤◌, ◌<◌}
use native.Mathlib.Numerals.{add-one}
use lib.ListN.{length, drop, get_or, drop_of_length-le}
use lib.Seq.{drop-cons}
use Rattle.std.specs.Prelude.{Some, None, is_some}
use Rattle.std.specs.List.{list_any, position_from}
use Rattle.axes.specs.Axes.{first_of}

-- the test fails at each place before j: the search goes on from there
pub record Searched {A : Type 0} (f : A → Bool) (xs : List A) (j : ℕ) : Type 0 where
  pub left : position_from f j (drop j xs) ≡ first_of f xs

module _ {A : Type 0} (f : A → Bool) (xs : List A) where
  pub first_start : Searched f xs 0
  first_start = record { left = refl }

  -- x is the element at place j
  module _ {j : ℕ} (x : A) (is : x ≡ get_or xs j x) (h : j < length xs) (s : Searched f xs j) where
    pub first_more : f x ≡ false → Searched f xs (j + 1)
    first_more e =
        record { left = ap (λ k. position_from f (j + 1) (drop k xs)) (add-one j) ∙ rw (drop-cons xs j x h, ← is, e) at s.left }

    pub first_here : f x ≡ true → Some j ≡ first_of f xs
    first_here e = rw (drop-cons xs j x h, ← is, e) at s.left

  pub first_end : {j : ℕ} → length xs ≤ j → Searched f xs j → None ≡ first_of f xs
  first_end {j} h s = rw (drop_of_length-le xs {i = j} h) at s.left

-- there is a place exactly if the test holds somewhere
first_some : {A : Type 0} (f : A → Bool) (i : ℕ) (xs : List A) → is_some (position_from f i xs) ≡ list_any f xs
first_some f i [] = refl
first_some f i (x ∷ xs) = go (f x) (first_some f (i + 1) xs)
  where
    go : (t : Bool) → is_some (position_from f (i + 1) xs) ≡ list_any f xs → is_some (cond t (Some i) (position_from f (i + 1) xs)) ≡ (t || list_any f xs)
    go true h = refl
    go false h = h

-- r says that there is none
pub first_none : {A : Type 0} (f : A → Bool) (xs : List A) {r : Bool} → is_some (first_of f xs) ≡ not r → r ≡ not (list_any f xs)
first_none f xs {r} e = rw (← first_some f 0 xs, e) (twice r)
  where
    twice : (b : Bool) → b ≡ not (not b)
    twice true = refl
    twice false = refl
