-- What the range routines return. Definitions only.
use Rattle.std.specs.Prelude.{Bool, Float, Option, None, Some, Result, Ok, Err, cond, not, ◌&&◌, ◌||◌}
use Rattle.std.specs.Float.Ieee.{le}
use Rattle.types.specs.declared.shape.Range.{Range}
use Rattle.types.specs.declared.refusal.Refusal.{Refusal}
use Rattle.types.specs.declared.refusal.Refusal.TheVariants.{Order}
use Rattle.types.specs.Range.{ordered_of, below_of}
use Rattle.float.specs.Rounded.{◌⊖◌}
use Rattle.float.specs.Values.{min_of, max_of}

abbrev pub unordered_of : Range → Range → Bool
unordered_of a b = not (ordered_of a && ordered_of b)

-- Order where a range is not ordered; none where they touch or overlap
unfoldable pub distance_to_range_of : Range → Range → Result (Option Float) Refusal
distance_to_range_of a b =
    cond (unordered_of a b)
    (Err Order)
    (cond (below_of b a) (Ok (Some (a.low ⊖ b.high))) (cond (below_of a b) (Ok (Some (b.low ⊖ a.high))) (Ok None)))

-- Order where a range is not ordered; none where they touch or lie apart
unfoldable pub intersection_length_of : Range → Range → Result (Option Float) Refusal
intersection_length_of a b =
    cond (unordered_of a b)
    (Err Order)
    (cond (le a.high b.low || le b.high a.low) (Ok None) (Ok (Some (min_of a.high b.high ⊖ max_of a.low b.low))))
