-- One comparison for each coordinate of a stretch. Definitions only.
use Rattle.std.specs.Prelude.{◌≡◌, Bool, false, cond, ◌&&◌, ◌||◌, ℕ, suc, ◌≤◌, Float}
use Rattle.std.specs.Float.Ieee.{lt, le}
use Rattle.float.specs.Rounded.{+0}
use Rattle.float.specs.Values.{greater_of}
use Rattle.stroke.specs.declared.axis.Axis.{Axis}
use Rattle.stroke.specs.Walk.{at, within, most_steps}
use Rattle.stroke.specs.Image.{on_side_of}
use Rattle.pixels.specs.declared.limit.Choice.{Choice}
use Rattle.pixels.specs.declared.limit.Choice.TheVariants.{AtLeast, AtMost, Below}

-- the three tests
unfoldable pub at_least : Float → Float → Bool
at_least limit x = le limit x

unfoldable pub at_most : Float → Float → Bool
at_most limit x = le x limit

unfoldable pub below : Float → Float → Bool
below limit x = lt x limit

-- As the code chooses: by the coordinate's direction, and by which of its range and the side ends first. `Limits` says what the chosen test is worth.
unfoldable pub choice_of : Axis → Float → Choice
choice_of a side = cond (lt a.slope +0) (AtLeast (greater_of a.low +0)) (cond (lt a.high side) (AtMost a.high) (Below side))

-- From step k on, `test` says whether the coordinate is in its range and on the side; and once it is not, it stays so.
pub record Limits (test : Float → Bool) (a : Axis) (side : Float) (k : ℕ) : Type 0 where
  pub allows_is : (i : ℕ) → k ≤ i → i ≤ most_steps → test (at a i) ≡ within a (at a i) && on_side_of side (at a i)
  pub stays : (i : ℕ) → k ≤ i → suc i ≤ most_steps → test (at a i) ≡ false → test (at a (suc i)) ≡ false

-- if so, no number of the range is on the side
unfoldable pub misses_of : Axis → Float → Bool
misses_of a side = lt a.high +0 || le side a.low
