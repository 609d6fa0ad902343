-- A fold that keeps the first of some floats in an order ends with one that none of them comes before: one law for the least and the greatest.
use Rattle.std.specs.Prelude.{◌≡◌, zero, suc, Bool, true, false, cond, ◌⊎◌, List, [], ◌∷◌, All, Contains, Float}
use Rattle.std.specs.Float.Ieee.{lt, is_nan}
use Rattle.std.proofs.Common.{refl, sym, inl, inr, arith}
use Rattle.std.proofs.lemmas.List.Elements.{All-nil, All-cons, All-head, All-tail}
use Rattle.float.specs.Values.{min_of, max_of}
use Rattle.float.specs.Folds.{fold_min, fold_max}
use Rattle.float.proofs.Laws.{above_number, below_number}
use Rattle.float.proofs.Order.{lt_itself, lt_one_way, lt_not}

-- m is one of the floats, and none of them comes before it
abbrev pub IsFirst : (Float → Float → Bool) → List Float → Float → Type 0
IsFirst before xs m = Contains xs m × All (λ x. before x m ≡ false) xs

pub contains_head : {A : Type 0} (x : A) (xs : List A) → Contains (x ∷ xs) x
contains_head x xs = (0, omega arith, refl)

pub contains_tail : {A : Type 0} (y x : A) (xs : List A) → Contains xs x → Contains (y ∷ xs) x
contains_tail y x xs h = (suc h.0, omega (arith, h.1), h.2)

pub contains_cases : {A : Type 0} (y x : A) (xs : List A) → Contains (y ∷ xs) x → (y ≡ x) ⊎ Contains xs x
contains_cases y x xs (zero, h, e) = inl e
contains_cases y x xs (suc k, h, e) = inr (k, omega (arith, h), e)

-- an order of the numbers, and a fold that keeps the first
record Fold (before : Float → Float → Bool) (fold : Float → List Float → Float) : Type 0 where
  itself : (x : Float) → before x x ≡ false
  one_way : (x y : Float) → before x y ≡ true → before y x ≡ false
  not_before : (x y z : Float) → is_nan y ≡ false → before x y ≡ false → before y z ≡ false → before x z ≡ false
  number : (x y : Float) → before x y ≡ true → is_nan x ≡ false
  nothing : (a : Float) → fold a [] ≡ a
  more : (a x : Float) (xs : List Float) → is_nan a ≡ false → fold a (x ∷ xs) ≡ fold (cond (before x a) x a) xs

abbrev pub after : Float → Float → Bool
after x y = lt y x

lowest_fold : Fold lt fold_min
unfolding fold_min min_of
lowest_fold =
    record {
      itself = lt_itself;
      one_way = lt_one_way;
      not_before = lt_not;
      number = below_number;
      nothing = λ a. refl;
      more = λ a x xs h. rw h refl;
    }

highest_fold : Fold after fold_max
unfolding fold_max max_of
highest_fold =
    record {
      itself = lt_itself;
      one_way = λ x y. lt_one_way y x;
      not_before = λ x y z i h k. lt_not z y x i k h;
      number = λ x y. above_number y x;
      nothing = λ a. refl;
      more = λ a x xs h. rw h refl;
    }

module _ {before : Float → Float → Bool} {fold : Float → List Float → Float} (f : Fold before fold) where
  abbrev NotBefore : Float → Float → Type 0
  NotBefore m x = before x m ≡ false

  -- the kept one of a and x stands for both
  kept : (a x m : Float) (xs : List Float) → is_nan a ≡ false → (t : Bool) → before x a ≡ t → IsFirst before (cond t x a ∷ xs) m → IsFirst before (a ∷ x ∷ xs) m
  kept a x m xs i true e g =
      let first = All-head (NotBefore m) x xs g.1 in (
        contains_tail a m (x ∷ xs) g.0,
        All-cons (NotBefore m) a (x ∷ xs) (f.not_before a x m (f.number x a e) (f.one_way x a e) first) g.1,
      )
  kept a x m xs i false e g =
      let first = All-head (NotBefore m) a xs g.1 in
      let rest = All-cons (NotBefore m) x xs (f.not_before x a m i e first) (All-tail (NotBefore m) a xs g.1) in (
        elim (contains_cases a m xs g.0) [
          | inl h ↦ rw (sym h) (contains_head a (x ∷ xs))
          | inr h ↦ contains_tail a m (x ∷ xs) (contains_tail x m xs h)
        ],
        All-cons (NotBefore m) a (x ∷ xs) first rest,
      )

  number_kept : (a x : Float) → is_nan a ≡ false → (t : Bool) → before x a ≡ t → is_nan (cond t x a) ≡ false
  number_kept a x i true e = f.number x a e
  number_kept a x i false e = i

  first_is : (xs : List Float) (a : Float) → is_nan a ≡ false → IsFirst before (a ∷ xs) (fold a xs)
  first_is [] a i = rw (f.nothing a) (contains_head a [], All-cons (NotBefore a) a [] (f.itself a) (All-nil (NotBefore a)))
  first_is (x ∷ xs) a i =
      rw (f.more a x xs i) (kept a x _ xs i (before x a) refl (first_is xs (cond (before x a) x a) (number_kept a x i (before x a) refl)))

  fold_is_number : (xs : List Float) (a : Float) → is_nan a ≡ false → is_nan (fold a xs) ≡ false
  fold_is_number [] a i = rw (f.nothing a) i
  fold_is_number (x ∷ xs) a i = rw (f.more a x xs i) (fold_is_number xs (cond (before x a) x a) (number_kept a x i (before x a) refl))

pub fold_min_first : (xs : List Float) (a : Float) → is_nan a ≡ false → IsFirst lt (a ∷ xs) (fold_min a xs)
fold_min_first = first_is lowest_fold

pub fold_max_first : (xs : List Float) (a : Float) → is_nan a ≡ false → IsFirst after (a ∷ xs) (fold_max a xs)
fold_max_first = first_is highest_fold

pub fold_min_number : (xs : List Float) (a : Float) → is_nan a ≡ false → is_nan (fold_min a xs) ≡ false
fold_min_number = fold_is_number lowest_fold

pub fold_max_number : (xs : List Float) (a : Float) → is_nan a ≡ false → is_nan (fold_max a xs) ≡ false
fold_max_number = fold_is_number highest_fold
