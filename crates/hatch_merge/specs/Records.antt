-- The records of hatch lists, compared and merged. A record is the bits of its eight floats. Definitions only.
use Rattle.std.specs.Prelude.{Bool, List, ℕ, nat_eq}
use Rattle.std.specs.Cmp.Lexicographic.{pointwise}
use Rattle.hatch_format.specs.Decode.{Contents}
use Rattle.hatch_encode.specs.Encode.{records_in}
use Rattle.hatch_merge.specs.Merged.{merged}

-- whether two records have the same bits: 0 is not -0, and two NaNs are the same only if their bits are
abbrev pub same_bits : List ℕ → List ℕ → Bool
same_bits = pointwise nat_eq

-- the records of what two files say, merged
abbrev pub merged_records : Contents → Contents → List (List ℕ)
merged_records c d = merged same_bits (records_in c.patterns) (records_in d.patterns)
