-- A record: a box and a line, from eight floats or from their bits. Definitions only.
use Rattle.std.specs.Prelude.{List, ℕ, get_or, Float}
use Rattle.hatch_format.specs.Decode.{float_of}
use Rattle.hatch_read.specs.declared.Record.{Record}

-- of floats e 0 to e 7: box (low x, low y, high x, high y), point, direction
abbrev pub record_by : (ℕ → Float) → Record
record_by e = record {
  face = record { min_x = e 0; min_y = e 1; max_x = e 2; max_y = e 3 };
  point = record { x = e 4; y = e 5 };
  direction = record { x = e 6; y = e 7 };
}

abbrev pub record_of : List ℕ → Record
record_of bits = record_by λ j. float_of (get_or bits j 0)
