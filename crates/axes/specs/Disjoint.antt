-- The separating axes of Gottschalk, Lin and Manocha, said with no fold. Two boxes are disjoint if on some axis the intervals of their
-- projections are. In the plane the axes are those at a right angle to the boxes' edges, in space those along the edges and along the cross
-- products of an edge of one with an edge of the other. The projections are rounded and may be NaN: a box's interval is that of the projections
-- that are numbers. Definitions only.
use Rattle.std.specs.Prelude.{◌≡◌, ◌⊎◌, ◌↔◌, true, false, Float}
use mathlib.Core.List.{List, Memᴰ}
use Rattle.std.specs.Float.{inf}
use Rattle.std.specs.Float.Ieee.{lt, is_nan}
use Rattle.axes.specs.Axes.{range_of, projections, separates}

abbrev pub +∞ : Float
+∞ = inf false

abbrev pub -∞ : Float
-∞ = inf true

-- x stands in the list and is a number
pub record NumberOf (xs : List Float) (x : Float) : Type 0 where
  pub listed : Memᴰ x xs
  pub number : is_nan x ≡ false

-- x is e or a number of the list
abbrev pub NumberOfOr : List Float → Float → Float → Type 0
NumberOfOr xs e x = (x ≡ e) ⊎ NumberOf xs x

-- ---- the interval of a list, (+infinity, -infinity) where it has no number

-- the least of the list's numbers and +infinity
pub record Least (xs : List Float) (m : Float) : Type 0 where
  pub one_of : NumberOfOr xs +∞ m
  pub none_below : (x : Float) → NumberOfOr xs +∞ x → lt x m ≡ false

-- the greatest of the list's numbers and -infinity
pub record Greatest (xs : List Float) (m : Float) : Type 0 where
  pub one_of : NumberOfOr xs -∞ m
  pub none_above : (x : Float) → NumberOfOr xs -∞ x → lt m x ≡ false

-- of two numbers: they are equal, zeros of either sign too
abbrev pub Level : Float → Float → Type 0
Level x y = (lt x y ≡ false) × (lt y x ≡ false)

-- a folded range has these ends
abbrev pub RangeEnds : Type 0
RangeEnds = (xs : List Float) → Least xs (range_of xs).low × Greatest xs (range_of xs).high

-- and no others
abbrev pub OneRange : Type 0
OneRange = (xs : List Float) (m : Float) → (Least xs m → Level m (range_of xs).low) × (Greatest xs m → Level m (range_of xs).high)

-- ---- disjoint intervals

-- every number of xs is strictly below every number of ys. Where one of the lists has none, its infinity decides
abbrev pub Below : List Float → List Float → Type 0
Below xs ys = (x y : Float) → NumberOfOr xs -∞ x → NumberOfOr ys +∞ y → lt x y ≡ true

abbrev pub Disjoint : List Float → List Float → Type 0
Disjoint xs ys = Below xs ys ⊎ Below ys xs

-- the infinities decide nothing where both lists have a number
abbrev pub NumbersDecide : Type 0
NumbersDecide =
    (xs ys : List Float) (a b : Float) →
    NumberOf xs a →
    NumberOf ys b →
    Below xs ys ↔ ((x y : Float) → NumberOf xs x → NumberOf ys y → lt x y ≡ true)

module _ {P : Type 0} (dot : P → P → Float) where
  -- an axis separates exactly if the intervals on it are disjoint
  abbrev pub SeparatesIfDisjoint : Type 0
  SeparatesIfDisjoint = (ps qs : List P) (axis : P) → (separates dot ps qs axis ≡ true) ↔ Disjoint (projections dot ps axis) (projections dot qs axis)

  -- one of the axes on which the corners' intervals are disjoint
  abbrev pub SeparatingAxis : List P → List P → List P → Type 0
  SeparatingAxis ps qs axes = (axis : P) × Memᴰ axis axes × Disjoint (projections dot ps axis) (projections dot qs axis)

-- what the folded ranges of Axes.antt are, in these words
pub record FoldedRanges {P : Type 0} (dot : P → P → Float) : Type 0 where
  pub ends : RangeEnds
  pub one : OneRange
  pub numbers : NumbersDecide
  pub separates : SeparatesIfDisjoint dot
