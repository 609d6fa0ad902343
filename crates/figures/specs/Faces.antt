-- Lines against one box in one call, their falling twins, and what is refused. Definitions only.
use Rattle.std.specs.Prelude.{List, [], ◌∷◌, Float}
use Rattle.types.specs.declared.shape.Aabb2.{Aabb2}
use Rattle.types.specs.declared.refusal.Refusal.TheVariants.{Room, Lines}
use Rattle.figures.specs.Table.{plus, minus, box, face, face_refused}

abbrev right : Aabb2
right = box (plus 0) (plus 0) (plus 4) (plus 2)

-- a line a row: point and direction
abbrev lines : List Float
lines =
    plus 6 ∷ minus 1 ∷ minus 1 ∷ plus 1
    ∷ plus 6 ∷ minus 1 ∷ plus 1 ∷ plus 1
    ∷ plus 6 ∷ plus 0 ∷ minus 1 ∷ plus 1
    ∷ plus 5 ∷ plus 1 ∷ plus 0 ∷ plus 1
    ∷ plus 4 ∷ plus 1 ∷ minus 0 ∷ plus 1
    ∷ []

-- both with x mirrored, so that what leans one way leans the other
abbrev left : Aabb2
left = box (minus 4) (plus 0) (plus 0) (plus 2)

abbrev twins : List Float
twins =
    minus 6 ∷ minus 1 ∷ plus 1 ∷ plus 1
    ∷ minus 6 ∷ minus 1 ∷ minus 1 ∷ plus 1
    ∷ minus 6 ∷ plus 0 ∷ plus 1 ∷ plus 1
    ∷ minus 5 ∷ plus 1 ∷ minus 0 ∷ plus 1
    ∷ minus 4 ∷ plus 1 ∷ plus 0 ∷ plus 1
    ∷ []

-- hit 2, 3 by the right edge; miss; hit 2, 2 by the right edge; miss; hit -1, 1 by the lower edge
abbrev results : List Float
results =
    plus 1 ∷ plus 2 ∷ plus 3 ∷ plus 2
    ∷ plus 0 ∷ plus 0 ∷ plus 0 ∷ plus 0
    ∷ plus 1 ∷ plus 2 ∷ plus 2 ∷ plus 2
    ∷ plus 0 ∷ plus 0 ∷ plus 0 ∷ plus 0
    ∷ plus 1 ∷ minus 1 ∷ plus 1 ∷ plus 3
    ∷ []

-- in the mirror left is right
abbrev mirrored_results : List Float
mirrored_results =
    plus 1 ∷ plus 2 ∷ plus 3 ∷ plus 1
    ∷ plus 0 ∷ plus 0 ∷ plus 0 ∷ plus 0
    ∷ plus 1 ∷ plus 2 ∷ plus 2 ∷ plus 1
    ∷ plus 0 ∷ plus 0 ∷ plus 0 ∷ plus 0
    ∷ plus 1 ∷ minus 1 ∷ plus 1 ∷ plus 3
    ∷ []

-- a line, and a float more
abbrev one : List Float
one = plus 6 ∷ minus 1 ∷ minus 1 ∷ plus 1 ∷ []

abbrev five : List Float
five = plus 6 ∷ minus 1 ∷ minus 1 ∷ plus 1 ∷ plus 6 ∷ []

abbrev pub faces : List (Type 0)
faces =
    face right lines results
    ∷ face left twins mirrored_results
    -- no line
    ∷ face right [] []
    -- five floats: 14, whether there is room for one line or not; one line with room for three entries: 1
    ∷ face_refused right five 4 Lines
    ∷ face_refused right five 3 Lines
    ∷ face_refused right one 3 Room
    ∷ []
