-- The results of a list of lines against one box. Definitions only.
use Rattle.std.specs.Prelude.{List, [], ◌∷◌, ◌++◌, ℕ, pos, Float}
use Rattle.std.specs.Float.{binary32}
use Rattle.std.specs.Float.Ieee.{of_int}
use Rattle.types.specs.declared.shape.Vec2.{Vec2}
use Rattle.types.specs.declared.shape.Aabb2.{Aabb2}
use Rattle.slabs.specs.declared.crossing.Crossing.{Crossing}
use Rattle.slabs.specs.declared.crossing.Crossing.TheVariants.{Miss, Hit}
use Rattle.float.specs.Rounded.{+0, one}
use Rattle.slabs.specs.Entry.{number_of}
use Rattle.aabb.specs.Clip.{crossing_against_line_of}

-- an origin or a direction
abbrev pub vector : Float → Float → Vec2
vector x y = record { x = x; y = y }

-- A line's result: 1, the interval's two ends and the number of the edge by which the line comes in for a hit, or four zeros for a miss. The edge's
-- number is 0 for none and 1 to 4 for left, right, lower and upper.
unfoldable pub encoded_of : Crossing → List Float
encoded_of Miss = +0 ∷ +0 ∷ +0 ∷ +0 ∷ []
encoded_of (Hit tmin tmax edge) = one ∷ tmin ∷ tmax ∷ of_int binary32 (pos (number_of edge)) ∷ []

-- how many floats a result has
abbrev pub width : ℕ
width = 4

-- The list has a line's origin and direction in four floats, and line after line. The results are those of `crossing_against_line_of`, in the
-- lines' order. Fewer than four floats at the end are no line.
unfoldable pub results_of : Aabb2 → List Float → List Float
results_of b [] = []
results_of b (px ∷ []) = []
results_of b (px ∷ py ∷ []) = []
results_of b (px ∷ py ∷ dx ∷ []) = []
results_of b (px ∷ py ∷ dx ∷ dy ∷ lines) = encoded_of (crossing_against_line_of b (vector px py) (vector dx dy)) ++ results_of b lines
