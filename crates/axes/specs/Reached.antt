-- What the answer of a search means in which a NaN is refused, said with no fold: up to which axis it comes, and why it ends there.
-- Definitions only.
use Rattle.std.specs.Prelude.{◌≡◌, ◌↔◌, true, false, Float, Bool, Result, Ok, Err}
use mathlib.Core.List.{List, ◌∷◌, ◌++◌, Memᴰ}
use Rattle.std.specs.Float.Ieee.{is_nan}
use Rattle.types.specs.declared.refusal.Refusal.{Refusal}
use Rattle.types.specs.declared.refusal.Refusal.TheVariants.{NanProjection}
use Rattle.axes.specs.Axes.{projections}
use Rattle.axes.specs.Disjoint.{Disjoint}

-- no NaN stands in the list
abbrev pub Numbers : List Float → Type 0
Numbers xs = (x : Float) → Memᴰ x xs → is_nan x ≡ false

module _ {P : Type 0} (dot : P → P → Float) (ps qs : List P) where
  -- every corner's projection on the axis is a number
  abbrev pub Defined : P → Type 0
  Defined axis = Numbers (projections dot ps axis) × Numbers (projections dot qs axis)

  -- the intervals on the axis are disjoint
  abbrev pub Separated : P → Type 0
  Separated axis = Disjoint (projections dot ps axis) (projections dot qs axis)

  -- the search goes on past the axis
  abbrev pub Passed : P → Type 0
  Passed axis = Defined axis × (Separated axis → ⊥)

-- the search comes to the axis: it goes on past each one before it
pub record Reached {P : Type 0} (dot : P → P → Float) (ps qs axes : List P) (axis : P) : Type 0 where
  pub before : List P
  pub after : List P
  pub stands : axes ≡ before ++ axis ∷ after
  pub passed : (a : P) → Memᴰ a before → Passed dot ps qs a

-- r is the answer
pub record VerdictPromise {P : Type 0} (dot : P → P → Float) (ps qs axes : List P) (r : Result Bool Refusal) : Type 0 where
  -- yes exactly if it goes on past every axis
  pub yes : (r ≡ Ok true) ↔ ((axis : P) → Memᴰ axis axes → Passed dot ps qs axis)
  -- no exactly if it comes to an axis on which every projection is a number and that parts the boxes
  pub no : (r ≡ Ok false) ↔ ((axis : P) × Reached dot ps qs axes axis × Defined dot ps qs axis × Separated dot ps qs axis)
  -- refused exactly if it comes to an axis on which a projection is NaN, whether it parts the boxes or not
  pub refused : (r ≡ Err NanProjection) ↔ ((axis : P) × Reached dot ps qs axes axis × (Defined dot ps qs axis → ⊥))
