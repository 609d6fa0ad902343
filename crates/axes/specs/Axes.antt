-- Gottschalk, Lin and Manocha's separating axes, over lists of corners and of axes and for any dot product, so in any dimension.
-- Where they compare the centres' distance with radii, the folded ranges of the corners' rounded projections decide, as in the Rust.
-- Definitions only.
use Rattle.std.specs.Prelude.{Bool, true, false, not, cond, ◌||◌, ℕ, List, [], ◌∷◌, map, Float, Option, Result, Ok, Err}
use Rattle.std.specs.List.{list_any, position_from}
use Rattle.std.specs.Float.Ieee.{is_nan}
use Rattle.types.specs.declared.shape.Range.{Range}
use Rattle.types.specs.declared.refusal.Refusal.{Refusal}
use Rattle.types.specs.declared.refusal.Refusal.TheVariants.{NanProjection}
use Rattle.types.specs.Range.{below_of}
use Rattle.float.specs.Values.{lesser_of, greater_of}
use Rattle.float.specs.Folds.{least_of, greatest_of}

-- ---- ranges

-- (+infinity, -infinity) of NaN only
abbrev pub range_of : List Float → Range
range_of xs = record { low = least_of xs; high = greatest_of xs }

-- one range's maximum is strictly below the other's minimum: equal ends overlap
unfoldable pub apart_of : Range → Range → Bool
apart_of a b = below_of a b || below_of b a

-- x folded into a range whose ends are numbers
abbrev pub widened_of : Range → Float → Range
widened_of r x = record { low = lesser_of r.low x; high = greater_of r.high x }

-- ---- searching a list

-- the place of the first element of which f holds
abbrev pub first_of : {A : Type 0} → (A → Bool) → List A → Option ℕ
first_of f xs = position_from f 0 xs

-- ---- axes

module _ {P : Type 0} (dot : P → P → Float) where
  abbrev pub projections : List P → P → List Float
  projections ps axis = map (λ p. dot p axis) ps

  unfoldable pub separates : List P → List P → P → Bool
  separates ps qs axis = apart_of (range_of (projections ps axis)) (range_of (projections qs axis))

  -- no exactly if some axis separates the corners
  unfoldable pub meets : List P → List P → List P → Bool
  meets ps qs axes = not (list_any (separates ps qs) axes)

  -- a projection on the axis is NaN
  unfoldable pub undefined_on : List P → List P → P → Bool
  undefined_on ps qs axis = list_any is_nan (projections ps axis) || list_any is_nan (projections qs axis)

  -- the range of the projections on an axis, refused where one is NaN
  unfoldable pub span_of : List P → P → Result Range Refusal
  span_of ps axis = cond (list_any is_nan (projections ps axis)) (Err NanProjection) (Ok (range_of (projections ps axis)))

  -- the same search where a NaN is refused: the first axis on which a projection is NaN, NanProjection, or that separates the corners, no
  unfoldable pub verdict_of : List P → List P → List P → Result Bool Refusal
  verdict_of ps qs [] = Ok true
  verdict_of ps qs (axis ∷ axes) =
      cond (undefined_on ps qs axis)
      (Err NanProjection)
      (cond (separates ps qs axis) (Ok false) (verdict_of ps qs axes))
