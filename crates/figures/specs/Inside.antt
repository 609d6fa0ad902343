-- Strokes that stay on the sheet, each with its falling twin or backwards, and how long a list always serves. Definitions only.
use Rattle.std.specs.Prelude.{true, List, [], ◌∷◌, negsuc, Float}
use Rattle.std.specs.Float.{fin}
use Rattle.figures.specs.Table.{plus, halves, at, stroke, inside, bound}

-- 2 ^ -149 below zero
abbrev tiny : Float
tiny = fin true 1 (negsuc 148)

abbrev pub insides : List (Type 0)
insides =
    -- along a row to the right margin, 0.5 1.5 to 3.5 1.5, image 4 by 4: the closing entry is the next row's first pixel, 8
    stroke (at (halves 1) (halves 3)) (at (halves 7) (halves 3)) 4 4 (4 ∷ 5 ∷ 6 ∷ 7 ∷ 8 ∷ [])
    ∷ inside (at (halves 1) (halves 3)) (at (halves 7) (halves 3)) 4 4 (4 ∷ 5 ∷ 6 ∷ 7 ∷ [])
    -- and backwards
    ∷ inside (at (halves 7) (halves 3)) (at (halves 1) (halves 3)) 4 4 (7 ∷ 6 ∷ 5 ∷ 4 ∷ [])
    -- corner to corner, 0.5 3.5 to 3.5 0.5, and the falling twin, 3.5 3.5 to 0.5 0.5
    ∷ inside (at (halves 1) (halves 7)) (at (halves 7) (halves 1)) 4 4 (12 ∷ 9 ∷ 6 ∷ 3 ∷ [])
    ∷ inside (at (halves 7) (halves 7)) (at (halves 1) (halves 1)) 4 4 (15 ∷ 10 ∷ 5 ∷ 0 ∷ [])
    -- down the right margin, since y grows downwards, 3.5 0.5 to 3.5 3.5, and up the left one, 0.5 3.5 to 0.5 0.5
    ∷ inside (at (halves 7) (halves 1)) (at (halves 7) (halves 7)) 4 4 (3 ∷ 7 ∷ 11 ∷ 15 ∷ [])
    ∷ inside (at (halves 1) (halves 7)) (at (halves 1) (halves 1)) 4 4 (12 ∷ 8 ∷ 4 ∷ 0 ∷ [])
    -- D is exact: from 0 to 1 it is 1, and from 2 ^ -149 below 0 it is 2, though the rounded difference is 1
    ∷ bound (at (plus 0) (plus 0)) (at (plus 1) (plus 0)) 64 64 4
    ∷ bound (at tiny (plus 0)) (at (plus 1) (plus 0)) 64 64 6
    ∷ bound (at (plus 1) (plus 0)) (at tiny (plus 0)) 64 64 6
    -- and of the bound by the ends and that by the sides it is the lesser
    ∷ bound (at (plus 0) (plus 0)) (at (plus 0) (plus 9)) 4 8 9
    ∷ []
