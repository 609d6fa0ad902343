-- The ends of a folded range are the least and the greatest of the list's numbers, by the law on folds of crates/float.
use Rattle.std.specs.Prelude.{◌≡◌, Bool, false, [], ◌∷◌, Contains, Float}
use Rattle.std.specs.Float.Ieee.{lt, is_nan}
use Rattle.std.proofs.Common.{refl, sym, inl, inr, arith}
use Rattle.std.proofs.lemmas.List.Elements.{All-head, All-tail, All-contains}
use mathlib.Core.List.{List}
use mathlib.Core.List.Memᴰ
use mathlib.Core.List.Memᴰ.{Memᴰ}
use Rattle.float.proofs.Folds.{IsFirst, after, contains_head, contains_tail, contains_cases, fold_min_first, fold_max_first, fold_min_number, fold_max_number}
use Rattle.axes.specs.Axes.{range_of}
use Rattle.axes.specs.Disjoint.{+∞, -∞, NumberOfOr, RangeEnds, OneRange}

-- ---- the first of a list's numbers

-- a place in the list, by its two definitions
member : {x : Float} (xs : List Float) → Memᴰ x xs → Contains xs x
member [] h = absurd (Memᴰ.not-nil h)
member {x} (y ∷ ys) h = elim (Memᴰ.cases_cons h) [ inl e ↦ rw e (contains_head y ys) | inr k ↦ contains_tail y x ys (member ys k) ]

listed : {x : Float} (xs : List Float) → Contains xs x → Memᴰ x xs
listed [] c = absurd (omega (arith, c.1))
listed {x} (y ∷ ys) c = elim (contains_cases y x ys c) [ inl e ↦ Memᴰ.head (sym e) | inr k ↦ Memᴰ.tail (listed ys k) ]

-- what a fold from a gives is a or a number of the list, and none of these comes before it
first_of_numbers :
    (before : Float → Float → Bool) (xs : List Float) (a m : Float) →
    IsFirst before (a ∷ xs) m →
    is_nan m ≡ false →
    NumberOfOr xs a m × ((x : Float) → NumberOfOr xs a x → before x m ≡ false)
first_of_numbers before xs a m f number = (one_of, none_before)
  where
    NotBefore : Float → Type 0
    NotBefore x = before x m ≡ false

    one_of : NumberOfOr xs a m
    one_of = elim (contains_cases a m xs f.0) [ inl e ↦ inl (sym e) | inr k ↦ inr (record { listed = listed xs k; number = number }) ]

    none_before : (x : Float) → NumberOfOr xs a x → before x m ≡ false
    none_before x (inl e) = rw e (All-head NotBefore a xs f.1)
    none_before x (inr n) = All-contains NotBefore xs x (All-tail NotBefore a xs f.1) (member xs n.listed)

-- ---- ranges

pub range_ends : RangeEnds
unfolding is_nan
range_ends xs =
    let l = first_of_numbers lt xs +∞ _ (fold_min_first xs +∞ refl) (fold_min_number xs +∞ refl) in
    let g = first_of_numbers after xs -∞ _ (fold_max_first xs -∞ refl) (fold_max_number xs -∞ refl) in
    (record { one_of = l.0; none_below = l.1 }, record { one_of = g.0; none_above = g.1 })

pub one_range : OneRange
one_range xs m =
    let r = range_ends xs in (
      λ l. (r.0.none_below m l.one_of, l.none_below (range_of xs).low r.0.one_of),
      λ g. (g.none_above (range_of xs).high r.1.one_of, r.1.none_above m g.one_of),
    )
