-- Further figures: tiles of a box with a tiny negative corner, and strokes in other directions. Definitions only.
use Rattle.std.specs.Prelude.{List, [], ◌∷◌}
use Rattle.std.specs.Float.{binary32}
use Rattle.std.specs.Float.Ieee.{of_bits}
use Rattle.tiles.specs.Answer.{sheet}
use Rattle.figures.specs.Table.{plus, minus, halves, at, box, tiles, stroke}

abbrev pub further : List (Type 0)
further =
    -- A high corner of -2^-149, divided by the size 4,096, is -0. So column 0 is listed, though the box does not reach it: coordinates of at least
    -- 2^-100 in size, and zeros, are the premise of the smallest cover. Tiles -8 1 -2^-149 2, shape 4 by 3: 0
    tiles (box (minus 8) (plus 1) (of_bits binary32 0x8000_0001) (plus 2)) (sheet 4096 4 3) (0 ∷ [])
    -- the stroke of Known.antt backwards, 3.5 0.5 to 0.5 3.5, image 8 by 8: 3 10 17 24 32
    ∷ stroke (at (halves 7) (halves 1)) (at (halves 1) (halves 7)) 8 8 (3 ∷ 10 ∷ 17 ∷ 24 ∷ 32 ∷ [])
    -- the same square's other diagonal, 0.5 0.5 to 3.5 3.5: 0 9 18 27 36; and backwards: 27 18 9 0 0
    ∷ stroke (at (halves 1) (halves 1)) (at (halves 7) (halves 7)) 8 8 (0 ∷ 9 ∷ 18 ∷ 27 ∷ 36 ∷ [])
    ∷ stroke (at (halves 7) (halves 7)) (at (halves 1) (halves 1)) 8 8 (27 ∷ 18 ∷ 9 ∷ 0 ∷ 0 ∷ [])
    -- one that is less steep, 0.5 0.5 to 3.5 2.5. Its walk leaves before the second end, whose pixel is the closing entry: 0 9 10 19
    ∷ stroke (at (halves 1) (halves 1)) (at (halves 7) (halves 5)) 8 8 (0 ∷ 9 ∷ 10 ∷ 19 ∷ [])
    -- a level stroke, 0.5 3.5 to 3.5 3.5, image 4 by 4: 12 13 14 15 16; and backwards: 15 14 13 12 12
    ∷ stroke (at (halves 1) (halves 7)) (at (halves 7) (halves 7)) 4 4 (12 ∷ 13 ∷ 14 ∷ 15 ∷ 16 ∷ [])
    ∷ stroke (at (halves 7) (halves 7)) (at (halves 1) (halves 7)) 4 4 (15 ∷ 14 ∷ 13 ∷ 12 ∷ 12 ∷ [])
    ∷ []
