-- Known figures: lines, a ray, overlaps, a raster, tiles and a stroke. Definitions only.
use Rattle.std.specs.Prelude.{List, [], ◌∷◌, None, Some, Ok}
use Rattle.slabs.specs.declared.Interval.TheVariants.{Miss, Hit}
use Rattle.tiles.specs.Answer.{sheet}
use Rattle.figures.specs.Table.{plus, minus, halves, at, range, box, line, ray, overlap, raster, tiles, stroke}

abbrev pub known : List (Type 0)
known =
    -- line, box 0 0 4 2, point 6 -1, direction -1 1: hit 2, 3
    line (box (plus 0) (plus 0) (plus 4) (plus 2)) (at (plus 6) (minus 1)) (at (minus 1) (plus 1)) (Hit (plus 2) (plus 3))
    -- same, direction 1 1: miss
    ∷ line (box (plus 0) (plus 0) (plus 4) (plus 2)) (at (plus 6) (minus 1)) (at (plus 1) (plus 1)) Miss
    -- box -4 0 0 2, point -6 -1, direction 1 1: hit 2, 3
    ∷ line (box (minus 4) (plus 0) (plus 0) (plus 2)) (at (minus 6) (minus 1)) (at (plus 1) (plus 1)) (Hit (plus 2) (plus 3))
    -- box 0 0 4 2, point 6 0, direction -1 1: hit 2, 2
    ∷ line (box (plus 0) (plus 0) (plus 4) (plus 2)) (at (plus 6) (plus 0)) (at (minus 1) (plus 1)) (Hit (plus 2) (plus 2))
    -- point 5 1, direction 0 1: miss
    ∷ line (box (plus 0) (plus 0) (plus 4) (plus 2)) (at (plus 5) (plus 1)) (at (plus 0) (plus 1)) Miss
    -- ray, point 4 1, direction 1 0: hit -4, 0
    ∷ ray (box (plus 0) (plus 0) (plus 4) (plus 2)) (at (plus 4) (plus 1)) (at (plus 1) (plus 0)) (Hit (minus 4) (plus 0))
    -- overlap of 0..2 and 2..3: none; of 0..2 and 1..3 it is 1
    ∷ overlap (range (plus 0) (plus 2)) (range (plus 2) (plus 3)) (Ok None)
    ∷ overlap (range (plus 0) (plus 2)) (range (plus 1) (plus 3)) (Ok (Some (plus 1)))
    -- raster 0.5 0.5 2.5 1.5, image 4 by 4: 0 0 2 1
    ∷ raster (box (halves 1) (halves 1) (halves 5) (halves 3)) 4 4 (Ok (record { x0 = 0; y0 = 0; x1 = 2; y1 = 1 }))
    -- tiles 10 10 40 20, size 16, shape 4 by 3: 0 1 2 4 5 6
    ∷ tiles (box (plus 10) (plus 10) (plus 40) (plus 20)) (sheet 16 4 3) (0 ∷ 1 ∷ 2 ∷ 4 ∷ 5 ∷ 6 ∷ [])
    -- tiles 10 10 32 15, same: 0 1 2
    ∷ tiles (box (plus 10) (plus 10) (plus 32) (plus 15)) (sheet 16 4 3) (0 ∷ 1 ∷ 2 ∷ [])
    -- tiles -20 -20 -1 5, same: none, accepted
    ∷ tiles (box (minus 20) (minus 20) (minus 1) (plus 5)) (sheet 16 4 3) []
    -- stroke 0.5 3.5 to 3.5 0.5, image 8 by 8: 24 17 10 3 4
    ∷ stroke (at (halves 1) (halves 7)) (at (halves 7) (halves 1)) 8 8 (24 ∷ 17 ∷ 10 ∷ 3 ∷ 4 ∷ [])
    ∷ []
