-- Refused strokes: which coordinate offends, and by what. Definitions only.
use Rattle.std.specs.Prelude.{List, [], ◌∷◌, Float, true, false}
use Rattle.std.specs.Float.{nan, inf}
use Rattle.types.specs.declared.refusal.Refusal.TheVariants.{SameEnds, Coordinate, Size, NotFinite}
use Rattle.types.specs.Refusal.{refusal_at, nowhere}
use Rattle.figures.specs.Table.{plus, minus, at, stroke_refused}

-- within the limit, and beyond it
abbrev fine : Float
fine = plus 1

abbrev large : Float
large = plus 1000000000

abbrev pub offenders : List (Type 0)
offenders =
    -- each of the four places: not finite, and above 65,536 in size
    stroke_refused (at nan fine) (at fine fine) 8 8 (refusal_at NotFinite 0)
    ∷ stroke_refused (at fine (inf false)) (at fine fine) 8 8 (refusal_at NotFinite 1)
    ∷ stroke_refused (at fine fine) (at (inf true) fine) 8 8 (refusal_at NotFinite 2)
    ∷ stroke_refused (at fine fine) (at fine nan) 8 8 (refusal_at NotFinite 3)
    ∷ stroke_refused (at (plus 65537) fine) (at fine fine) 8 8 (refusal_at Coordinate 0)
    ∷ stroke_refused (at fine (minus 65537)) (at fine fine) 8 8 (refusal_at Coordinate 1)
    ∷ stroke_refused (at fine fine) (at large fine) 8 8 (refusal_at Coordinate 2)
    ∷ stroke_refused (at fine fine) (at fine (minus 65537)) 8 8 (refusal_at Coordinate 3)
    -- 1e9 before a NaN, and after it: the first decides
    ∷ stroke_refused (at large nan) (at fine fine) 8 8 (refusal_at Coordinate 0)
    ∷ stroke_refused (at nan large) (at fine fine) 8 8 (refusal_at NotFinite 0)
    -- a side comes before, equal ends come after
    ∷ stroke_refused (at nan fine) (at fine fine) 16385 8 (nowhere Size)
    ∷ stroke_refused (at (inf false) fine) (at (inf false) fine) 8 8 (refusal_at NotFinite 0)
    ∷ stroke_refused (at (plus 65536) fine) (at (plus 65536) fine) 8 8 (nowhere SameEnds)
    ∷ []
