-- The walk of a stroke: one coordinate at a time, then the positions. Definitions only.
use Rattle.std.specs.Prelude.{Bool, true, false, not, ◌&&◌, ◌||◌, List, ℕ, zero, suc, Float}
use Rattle.std.specs.Float.Ieee.{lt}
use Rattle.types.specs.declared.shape.Vec2.{Vec2}
use Rattle.float.specs.Rounded.{◌⊕◌, ◌⊖◌, ◌⊘◌, epsilon}
use Rattle.float.specs.Values.{abs_of, min_of, max_of}
use Rattle.lists.specs.Places.{upto}
use Rattle.stroke.specs.declared.axis.Axis.{Axis}

-- ---- one coordinate

-- the larger absolute difference between the ends
unfoldable pub step_of : Vec2 → Vec2 → Float
step_of p q = max_of (abs_of (q.x ⊖ p.x)) (abs_of (q.y ⊖ p.y))

-- from p to q: the slope is the difference over the step, sign kept, and the range of the two is widened by 2 ^ -23
unfoldable pub axis_from : Float → Float → Float → Axis
axis_from step p q = record {
  start = p;
  slope = (q ⊖ p) ⊘ step;
  low = min_of p q ⊖ epsilon;
  high = max_of p q ⊕ epsilon;
}

-- the coordinate after k steps from the first end, each a rounded sum
unfoldable pub at : Axis → ℕ → Float
at a zero = a.start
at a (suc k) = at a k ⊕ a.slope

-- within the widened range: neither below `low` nor above `high`. A NaN is within
unfoldable pub within : Axis → Float → Bool
within a x = not (lt x a.low || lt a.high x)

-- ---- the positions: a is the axis of the columns, b that of the rows

abbrev pub position : Axis → Axis → ℕ → Vec2
position a b k = record { x = at a k; y = at b k }

-- both coordinates are within their ranges
unfoldable pub in_ranges_of : Axis → Axis → Vec2 → Bool
in_ranges_of a b p = within a p.x && within b p.y

abbrev pub goes_on : Axis → Axis → ℕ → Bool
goes_on a b k = in_ranges_of a b (position a b k)

-- The first of k, k + 1, .. at which the walk does not go on, and k + n if it goes on at each of the n before that. t says whether it goes
-- on at k: as an argument, so that this computes no further than the walk goes.
unfoldable pub first_outside : Axis → Axis → ℕ → Bool → ℕ → ℕ
first_outside a b zero t k = k
first_outside a b (suc n) false k = k
first_outside a b (suc n) true k = first_outside a b n (goes_on a b (suc k)) (suc k)

-- A walk goes no further than this. No accepted stroke's walk goes so far without leaving its ranges: specs/Stops.antt.
abbrev pub most_steps : ℕ
most_steps = 131074

-- where the walk leaves the ends' ranges: the number of its first position outside
unfoldable pub exit : Axis → Axis → ℕ
exit a b = first_outside a b most_steps (goes_on a b 0) 0

-- the positions before it leaves, in the walk's order
unfoldable pub positions : Axis → Axis → List Vec2
positions a b = upto (position a b) (exit a b)

-- ---- of two ends

abbrev pub along_x : Vec2 → Vec2 → Axis
along_x p q = axis_from (step_of p q) p.x q.x

abbrev pub along_y : Vec2 → Vec2 → Axis
along_y p q = axis_from (step_of p q) p.y q.y
