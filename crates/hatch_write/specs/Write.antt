-- What a writer answers. Definitions only.
use Rattle.std.specs.Prelude.{cond, List, ℕ, ltb, length, Result, Ok, Err}
use Rattle.types.specs.declared.refusal.Refusal.{Refusal}
use Rattle.types.specs.declared.refusal.Refusal.TheVariants.{Room, Count}
use Rattle.hatch_format.specs.Format.{version_one_of, expected_length}
use Rattle.hatch_format.specs.Decode.{record_count_of}
use Rattle.hatch_format.specs.declared.header.Row.{Row}

-- for n records and a list of `room` bytes: Count if the records are too many, then Room if the list is too short, and else the bytes of the file
unfoldable pub size_of : Row → ℕ → ℕ → Result ℕ Refusal
size_of r n room =
    cond (ltb r.limit n) (Err Count)
    (cond (ltb room (expected_length r n)) (Err Room) (Ok (expected_length r n)))

-- for the floats of records, or their bits, and the list l to write to: version 1 is written
abbrev pub write_of : {A : Type 0} → List A → List ℕ → Result ℕ Refusal
write_of records l = size_of version_one_of (record_count_of records) (length l)
