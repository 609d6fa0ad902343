-- The ink that a stroke leaves in a box, by the clip of its line, each operation rounded. Definitions only.
use Rattle.std.specs.Prelude.{cond, Float, Result, Ok, Err}
use Rattle.types.specs.declared.shape.Vec2.{Vec2}
use Rattle.types.specs.declared.shape.Aabb2.{Aabb2}
use Rattle.types.specs.Aabb2.{is_ordered_of}
use Rattle.types.specs.declared.refusal.Refusal.TheVariants.{Order}
use Rattle.types.specs.declared.refusal.RefusalAt.{RefusalAt}
use Rattle.types.specs.Refusal.{nowhere}
use Rattle.slabs.specs.declared.Interval.{Interval}
use Rattle.slabs.specs.declared.Interval.TheVariants.{Miss, Hit}
use Rattle.float.specs.Rounded.{+0, one}
use Rattle.float.specs.Values.{min_of, max_of}
use Rattle.vec2.specs.Values.{sub_of}
use Rattle.edge2_measure.specs.Measure.{length_of, position_from_ratio_of}
use Rattle.aabb.specs.Clip.{ordered_of, intersections_against_line_of}
use Rattle.stroke_check.specs.Check.{first_offender_of, coordinates, unless_offender}

-- the part of the stroke's line that is in the box: the line goes through the first end, along the rounded difference of the ends
abbrev pub clipped_of : Vec2 → Vec2 → Aabb2 → Interval
clipped_of p q b = intersections_against_line_of b p (sub_of q p)

-- what an interval has of the numbers from 0 to 1, and a miss where that is nothing
unfoldable pub bounded_of : Interval → Interval
bounded_of Miss = Miss
bounded_of (Hit tmin tmax) = ordered_of (Hit (max_of tmin +0) (min_of tmax one))

-- the `length` between the positions that `position_from_ratio` gives for an interval's two ends, and 0 for a miss
unfoldable pub length_over_of : Vec2 → Vec2 → Interval → Float
length_over_of p q Miss = +0
length_over_of p q (Hit t u) = length_of (position_from_ratio_of p q t) (position_from_ratio_of p q u)

-- what the stroke draws in the box
unfoldable pub drawn_of : Vec2 → Vec2 → Aabb2 → Float
drawn_of p q b = length_over_of p q (bounded_of (clipped_of p q b))

-- A coordinate that offends is refused as in the walk. Then a box is refused that is not ordered in x, or not in y.
unfoldable pub ink_of : Vec2 → Vec2 → Aabb2 → Result Float RefusalAt
ink_of p q b =
    unless_offender (first_offender_of (coordinates p q))
    (cond (is_ordered_of b) (Ok (drawn_of p q b)) (Err (nowhere Order)))
