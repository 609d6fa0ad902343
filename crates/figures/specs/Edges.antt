-- By which edge a line comes in: by each one, through a corner, along an edge, where an edge drops out, and by none. Definitions only.
use Rattle.std.specs.Prelude.{true, List, [], ◌∷◌}
use Rattle.std.specs.Float.{nan, inf}
use Rattle.types.specs.declared.shape.Aabb2.{Aabb2}
use Rattle.types.specs.declared.shape.Aabb3.{Aabb3}
use Rattle.slabs.specs.declared.crossing.Edge.TheVariants.{None, Left, Right, Lower, Upper, Near, Far}
use Rattle.slabs.specs.declared.crossing.Crossing.TheVariants.{Miss, Hit}
use Rattle.slabs.specs.Clip.{lowest, largest}
use Rattle.figures.specs.Table.{plus, minus, at, in_space, box, solid, crossing, crossing_ray, crossing_in_space}

-- the box of most rows, one with no width, and one of space
abbrev wide : Aabb2
wide = box (plus 0) (plus 0) (plus 4) (plus 2)

abbrev thin : Aabb2
thin = box (plus 1) (plus 0) (plus 1) (plus 2)

abbrev deep : Aabb3
deep = solid (plus 0) (plus 0) (plus 0) (plus 4) (plus 2) (plus 3)

abbrev pub edges : List (Type 0)
edges =
    -- level and upright lines, both ways
    crossing wide (at (minus 1) (plus 1)) (at (plus 1) (plus 0)) (Hit (plus 1) (plus 5) Left)
    ∷ crossing wide (at (plus 5) (plus 1)) (at (minus 1) (plus 0)) (Hit (plus 1) (plus 5) Right)
    ∷ crossing wide (at (plus 1) (minus 1)) (at (plus 0) (plus 1)) (Hit (plus 1) (plus 3) Lower)
    ∷ crossing wide (at (plus 1) (plus 3)) (at (plus 0) (minus 1)) (Hit (plus 1) (plus 3) Upper)
    -- a line that rises and one that falls, by each edge
    ∷ crossing wide (at (minus 2) (minus 1)) (at (plus 1) (plus 1)) (Hit (plus 2) (plus 3) Left)
    ∷ crossing wide (at (minus 2) (plus 3)) (at (plus 1) (minus 1)) (Hit (plus 2) (plus 3) Left)
    ∷ crossing wide (at (plus 6) (plus 3)) (at (minus 1) (minus 1)) (Hit (plus 2) (plus 3) Right)
    ∷ crossing wide (at (plus 6) (minus 1)) (at (minus 1) (plus 1)) (Hit (plus 2) (plus 3) Right)
    ∷ crossing wide (at (plus 1) (minus 1)) (at (plus 1) (plus 1)) (Hit (plus 1) (plus 3) Lower)
    ∷ crossing wide (at (plus 3) (minus 1)) (at (minus 1) (plus 1)) (Hit (plus 1) (plus 3) Lower)
    ∷ crossing wide (at (plus 3) (plus 3)) (at (minus 1) (minus 1)) (Hit (plus 1) (plus 3) Upper)
    ∷ crossing wide (at (plus 1) (plus 3)) (at (plus 1) (minus 1)) (Hit (plus 1) (plus 3) Upper)
    -- past the box
    ∷ crossing wide (at (plus 6) (minus 1)) (at (plus 1) (plus 1)) Miss
    ∷ crossing wide (at (minus 2) (minus 1)) (at (minus 1) (plus 1)) Miss
    -- by a corner, where x and y start together: x decides
    ∷ crossing wide (at (minus 1) (minus 1)) (at (plus 1) (plus 1)) (Hit (plus 1) (plus 3) Left)
    ∷ crossing wide (at (plus 5) (minus 1)) (at (minus 1) (plus 1)) (Hit (plus 1) (plus 3) Right)
    ∷ crossing wide (at (plus 5) (plus 3)) (at (minus 1) (minus 1)) (Hit (plus 1) (plus 3) Right)
    ∷ crossing wide (at (minus 1) (plus 3)) (at (plus 1) (minus 1)) (Hit (plus 1) (plus 3) Left)
    ∷ crossing wide (at (plus 6) (plus 0)) (at (minus 1) (plus 1)) (Hit (plus 2) (plus 2) Right)
    ∷ crossing wide (at (minus 2) (plus 0)) (at (plus 1) (plus 1)) (Hit (plus 2) (plus 2) Left)
    -- along an edge
    ∷ crossing wide (at (plus 4) (plus 1)) (at (minus 0) (plus 1)) (Hit (minus 1) (plus 1) Lower)
    ∷ crossing wide (at (plus 0) (plus 1)) (at (plus 0) (plus 1)) (Hit (minus 1) (plus 1) Lower)
    ∷ crossing wide (at (minus 1) (plus 2)) (at (plus 1) (plus 0)) (Hit (plus 1) (plus 5) Left)
    ∷ crossing wide (at (plus 5) (plus 2)) (at (minus 1) (plus 0)) (Hit (plus 1) (plus 5) Right)
    -- both quotients equal: the low edge, of zeros of either sign too
    ∷ crossing thin (at (plus 0) (plus 1)) (at (plus 1) (plus 0)) (Hit (plus 1) (plus 1) Left)
    ∷ crossing thin (at (plus 2) (plus 1)) (at (minus 1) (plus 0)) (Hit (plus 1) (plus 1) Left)
    ∷ crossing (box (minus 0) (plus 0) (plus 0) (plus 2)) (at (plus 0) (plus 1)) (at (plus 1) (plus 0)) (Hit (minus 0) (minus 0) Left)
    ∷ crossing (box (plus 0) (plus 0) (minus 0) (plus 2)) (at (plus 0) (plus 1)) (at (plus 1) (plus 0)) (Hit (plus 0) (plus 0) Left)
    -- a line comes into a reversed box by its high edge
    ∷ crossing (box (plus 4) (plus 0) (plus 0) (plus 2)) (at (minus 1) (plus 1)) (at (plus 1) (plus 0)) (Hit (plus 1) (plus 5) Right)
    ∷ crossing (box (plus 4) (plus 0) (plus 0) (plus 2)) (at (plus 5) (plus 1)) (at (minus 1) (plus 0)) (Hit (plus 1) (plus 5) Left)
    -- the edge with a NaN drops out, and the opposite one is told; with both edges of x out y decides, and with all of them out there is none
    ∷ crossing (box nan (plus 0) (plus 4) (plus 2)) (at (minus 1) (plus 1)) (at (plus 1) (plus 0)) (Hit (plus 5) (plus 5) Right)
    ∷ crossing (box (plus 0) (plus 0) nan (plus 2)) (at (minus 1) (plus 1)) (at (plus 1) (plus 0)) (Hit (plus 1) (plus 1) Left)
    ∷ crossing wide (at nan (minus 1)) (at (plus 1) (plus 1)) (Hit (plus 1) (plus 3) Lower)
    ∷ crossing wide (at nan nan) (at (plus 1) (plus 1)) (Hit lowest largest None)
    -- none with no direction, and from minus infinity
    ∷ crossing wide (at (plus 1) (plus 1)) (at (plus 0) (minus 0)) (Hit lowest largest None)
    ∷ crossing (box (inf true) (plus 0) (plus 4) (plus 2)) (at (plus 1) (plus 1)) (at (plus 1) (plus 0)) (Hit lowest (plus 3) None)
    -- a quotient that is the lowest finite number tells no edge either
    ∷ crossing (box lowest (plus 0) (plus 4) (plus 2)) (at (plus 0) (plus 1)) (at (plus 1) (plus 0)) (Hit lowest (plus 4) None)
    -- a ray has its line's edge, behind its origin too
    ∷ crossing_ray wide (at (plus 2) (plus 1)) (at (plus 1) (plus 0)) (Hit (minus 2) (plus 2) Left)
    ∷ crossing_ray wide (at (plus 2) (plus 1)) (at (minus 1) (plus 0)) (Hit (minus 2) (plus 2) Right)
    ∷ crossing_ray wide (at (plus 5) (plus 1)) (at (plus 1) (plus 0)) Miss
    -- in space: by the near and by the far face, through an edge of the box, and with equal quotients
    ∷ crossing_in_space deep (in_space (plus 1) (plus 1) (minus 1)) (in_space (plus 0) (plus 0) (plus 1)) (Hit (plus 1) (plus 4) Near)
    ∷ crossing_in_space deep (in_space (plus 1) (plus 1) (plus 4)) (in_space (plus 0) (plus 0) (minus 1)) (Hit (plus 1) (plus 4) Far)
    ∷ crossing_in_space deep (in_space (plus 1) (minus 1) (minus 1)) (in_space (plus 0) (plus 1) (plus 1)) (Hit (plus 1) (plus 3) Lower)
    ∷ crossing_in_space (solid (plus 0) (plus 0) (plus 1) (plus 4) (plus 2) (plus 1)) (in_space (plus 1) (plus 1) (plus 2)) (in_space (plus 0) (plus 0) (minus 1)) (Hit (plus 1) (plus 1) Near)
    ∷ []
