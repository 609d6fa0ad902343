-- Which of two sets of corners comes first, and whose axes come first, does not change whether they meet.
use mathlib.Core.Path.{◌≡◌, refl, sym, ap, ◌∙◌}
use mathlib.Core.Bool.{Bool, not, ◌||◌, or_assoc, or_comm}
use mathlib.Core.List.{List, [], ◌∷◌, ◌++◌}
use lib.Ieee.{Float, lt}
use Rattle.types.specs.declared.shape.Range.{Range}
use Rattle.std.specs.List.{list_any}
use Rattle.axes.specs.Axes.{range_of, apart_of, projections, separates, meets}

module _ {A : Type 0} where
  some_join : (f : A → Bool) (xs ys : List A) → list_any f (xs ++ ys) ≡ (list_any f xs || list_any f ys)
  some_join f [] ys = refl
  some_join f (x ∷ xs) ys = rw (some_join f xs ys) (sym (or_assoc (f x) (list_any f xs) (list_any f ys)))

  some_same : (f g : A → Bool) → ((x : A) → f x ≡ g x) → (xs : List A) → list_any f xs ≡ list_any g xs
  some_same f g e [] = refl
  some_same f g e (x ∷ xs) = rw (e x, some_same f g e xs)

-- the test is the same with the ranges exchanged
apart_exchanged : (a b : Range) → apart_of a b ≡ apart_of b a
unfolding apart_of
apart_exchanged a b = or_comm (lt a.high b.low) (lt b.high a.low)

module _ {P : Type 0} (dot : P → P → Float) where
  separates_exchanged : (ps qs : List P) (axis : P) → separates dot ps qs axis ≡ separates dot qs ps axis
  unfolding separates
  separates_exchanged ps qs axis = apart_exchanged (range_of (projections dot ps axis)) (range_of (projections dot qs axis))

  -- with the corners exchanged, and the axes of the one before or after those of the other
  pub meets_exchanged : (ps qs xs ys : List P) → meets dot ps qs (xs ++ ys) ≡ meets dot qs ps (ys ++ xs)
  unfolding meets
  meets_exchanged ps qs xs ys =
      ap not
      (some_same (separates dot ps qs) (separates dot qs ps) (separates_exchanged ps qs) (xs ++ ys)
      ∙ some_join (separates dot qs ps) xs ys
      ∙ or_comm (list_any (separates dot qs ps) xs) (list_any (separates dot qs ps) ys)
      ∙ sym (some_join (separates dot qs ps) ys xs))
