-- A stroke that cuts a corner of a box, its falling twins and others. Ink is the length from where the stroke comes into the box, or starts, to where
-- it leaves it, or ends. Definitions only.
use Rattle.std.specs.Prelude.{List, [], ◌∷◌, Float, Result, Ok, Err}
use Rattle.std.specs.Float.{nan}
use Rattle.types.specs.declared.shape.Vec2.{Vec2}
use Rattle.types.specs.declared.shape.Aabb2.{Aabb2}
use Rattle.types.specs.declared.refusal.Refusal.TheVariants.{Coordinate, Order, NotFinite}
use Rattle.types.specs.declared.refusal.RefusalAt.{RefusalAt}
use Rattle.types.specs.Refusal.{refusal_at, nowhere}
use Rattle.edge2_measure.specs.Measure.{length_of}
use Rattle.figures.specs.Table.{plus, minus, halves, quarters, at, box, ink}

abbrev unit : Aabb2
unit = box (plus 0) (plus 0) (plus 1) (plus 1)

abbrev reversed : Aabb2
reversed = box (plus 1) (plus 0) (plus 0) (plus 1)

abbrev between : Vec2 → Vec2 → Result Float RefusalAt
between p q = Ok (length_of p q)

abbrev pub inks : List (Type 0)
inks =
    -- 0 0 to 4 1 in the box 0 0 1 1: the ink lies from 0 0 to 1 0.25; and backwards
    ink (at (plus 0) (plus 0)) (at (plus 4) (plus 1)) unit (between (at (plus 0) (plus 0)) (at (plus 1) (quarters 1)))
    ∷ ink (at (plus 4) (plus 1)) (at (plus 0) (plus 0)) unit (between (at (plus 1) (quarters 1)) (at (plus 0) (plus 0)))
    -- the falling twin in the same box, 0 1 to 4 0, and the first mirrored in x, 0 0 to -4 1 in the box -1 0 0 1
    ∷ ink (at (plus 0) (plus 1)) (at (plus 4) (plus 0)) unit (between (at (plus 0) (plus 1)) (at (plus 1) (quarters 3)))
    ∷ ink (at (plus 0) (plus 0)) (at (minus 4) (plus 1)) (box (minus 1) (plus 0) (plus 0) (plus 1)) (between (at (plus 0) (plus 0)) (at (minus 1) (quarters 1)))
    -- along an edge, 0 1 to 4 1; touching a corner, 0 2 to 2 0; across, -1 0.5 to 3 0.5; inside
    ∷ ink (at (plus 0) (plus 1)) (at (plus 4) (plus 1)) unit (between (at (plus 0) (plus 1)) (at (plus 1) (plus 1)))
    ∷ ink (at (plus 0) (plus 2)) (at (plus 2) (plus 0)) unit (between (at (plus 1) (plus 1)) (at (plus 1) (plus 1)))
    ∷ ink (at (minus 1) (halves 1)) (at (plus 3) (halves 1)) unit (between (at (plus 0) (halves 1)) (at (plus 1) (halves 1)))
    ∷ ink (at (quarters 1) (quarters 1)) (at (quarters 3) (halves 1)) unit (between (at (quarters 1) (quarters 1)) (at (quarters 3) (halves 1)))
    -- of no length: inside, and outside; short of the box, -3 0.5 to -1 0.5, though its line hits it
    ∷ ink (at (halves 1) (halves 1)) (at (halves 1) (halves 1)) unit (between (at (halves 1) (halves 1)) (at (halves 1) (halves 1)))
    ∷ ink (at (plus 2) (plus 2)) (at (plus 2) (plus 2)) unit (Ok (plus 0))
    ∷ ink (at (minus 3) (halves 1)) (at (minus 1) (halves 1)) unit (Ok (plus 0))
    -- a coordinate is refused before the box is
    ∷ ink (at (plus 0) (plus 0)) (at (plus 0) nan) reversed (Err (refusal_at NotFinite 3))
    ∷ ink (at (plus 0) (plus 0)) (at (plus 65537) (plus 0)) reversed (Err (refusal_at Coordinate 2))
    ∷ ink (at (plus 0) (plus 0)) (at (plus 4) (plus 1)) reversed (Err (nowhere Order))
    ∷ []
