-- The falling twins of the lines, the ray and the stroke of Known.antt, in its order: x is mirrored, so that what leans one way leans the other.
-- The first and the third line are twins of each other already. Definitions only.
use Rattle.std.specs.Prelude.{List, [], ◌∷◌}
use Rattle.slabs.specs.declared.Interval.TheVariants.{Miss, Hit}
use Rattle.figures.specs.Table.{plus, minus, halves, at, box, line, ray, stroke}

abbrev pub twins : List (Type 0)
twins =
    -- line, box -4 0 0 2, point -6 -1, direction 1 1: hit 2, 3
    line (box (minus 4) (plus 0) (plus 0) (plus 2)) (at (minus 6) (minus 1)) (at (plus 1) (plus 1)) (Hit (plus 2) (plus 3))
    -- same, direction -1 1: miss
    ∷ line (box (minus 4) (plus 0) (plus 0) (plus 2)) (at (minus 6) (minus 1)) (at (minus 1) (plus 1)) Miss
    -- box 0 0 4 2, point 6 -1, direction -1 1: hit 2, 3
    ∷ line (box (plus 0) (plus 0) (plus 4) (plus 2)) (at (plus 6) (minus 1)) (at (minus 1) (plus 1)) (Hit (plus 2) (plus 3))
    -- box -4 0 0 2, point -6 0, direction 1 1: hit 2, 2
    ∷ line (box (minus 4) (plus 0) (plus 0) (plus 2)) (at (minus 6) (plus 0)) (at (plus 1) (plus 1)) (Hit (plus 2) (plus 2))
    -- box -4 0 0 2, point -5 1, direction -0 1: miss
    ∷ line (box (minus 4) (plus 0) (plus 0) (plus 2)) (at (minus 5) (plus 1)) (at (minus 0) (plus 1)) Miss
    -- ray, box -4 0 0 2, point -4 1, direction -1 0: hit -4, -0
    ∷ ray (box (minus 4) (plus 0) (plus 0) (plus 2)) (at (minus 4) (plus 1)) (at (minus 1) (plus 0)) (Hit (minus 4) (minus 0))
    -- stroke 7.5 3.5 to 4.5 0.5, image 8 by 8: 31 22 13 4 3
    ∷ stroke (at (halves 15) (halves 7)) (at (halves 9) (halves 1)) 8 8 (31 ∷ 22 ∷ 13 ∷ 4 ∷ 3 ∷ [])
    ∷ []
