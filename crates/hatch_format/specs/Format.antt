-- The header of a hatch list: a mark of three bytes, a 16-bit version at byte 3, a 16-bit count n at byte 5, and from byte 7 on n records, each of
-- as many bytes as the version's row says. The tests are made in the order mark, seven bytes of header, version, count, length. The first that fails
-- gives the refusal, which tells a byte. docs/FORMAT.md has the rules. Definitions only.
use Rattle.std.specs.Prelude.{cond, List, [], ◌∷◌, ℕ, ◌+◌, ◌*◌, min, eqb, ltb, length, Option, None, Some, Result, Ok, Err}
use Rattle.hatch_format.specs.Bytes.{half_at, starts_with_of}
use Rattle.hatch_format.specs.declared.header.Row.{Row}
use Rattle.hatch_format.specs.declared.header.Head.{Head}
use Rattle.types.specs.declared.refusal.Refusal.TheVariants.{Mark, Version, Count, Length}
use Rattle.types.specs.declared.refusal.RefusalAt.{RefusalAt}
use Rattle.types.specs.Refusal.{refusal_at}

-- the bytes `HSL`
abbrev pub hsl : List ℕ
hsl = 72 ∷ 83 ∷ 76 ∷ []

-- version 1: 32 bytes a record, and at most 2,000 records
abbrev pub version_one_of : Row
version_one_of = record { version = 1; width = 32; limit = 2000 }

-- the table of the versions that are read
abbrev pub rows : List Row
rows = version_one_of ∷ []

-- the row of a version, if the table has one
unfoldable pub layout_of : List Row → ℕ → Option Row
layout_of [] v = None
layout_of (r ∷ rs) v = cond (eqb r.version v) (Some r) (layout_of rs v)

-- where record i starts
abbrev pub record_place : ℕ → ℕ → ℕ
record_place width i = 7 + width * i

-- the length of a file of n records
abbrev pub expected_length : Row → ℕ → ℕ
expected_length r n = record_place r.width n

-- what is said of a header that is accepted
abbrev pub head : Row → ℕ → Result Head RefusalAt
head r n = Ok (record { row = r; count = n })

-- the refusal of a file whose length is not the expected one: its byte is the smaller of the two
abbrev pub wrong_length_of : ℕ → ℕ → RefusalAt
wrong_length_of size expected = refusal_at Length (min size expected)

-- the tests of a file of known version: Count at byte 5 for more records than the version has at most, then the length
unfoldable pub sized_of : Row → ℕ → ℕ → Result Head RefusalAt
sized_of r size n =
    cond (ltb r.limit n) (Err (refusal_at Count 5))
    (cond (eqb size (expected_length r n)) (head r n) (Err (wrong_length_of size (expected_length r n))))

-- Version at byte 3 for a version that the table has not, then those tests
unfoldable pub versioned_of : Option Row → ℕ → ℕ → Result Head RefusalAt
versioned_of None size n = Err (refusal_at Version 3)
versioned_of (Some r) size n = sized_of r size n

-- Mark at byte 0 for bytes that do not start with the mark. Then Length for fewer than 7 bytes, which a header has. Then those tests
unfoldable pub head_of : List ℕ → List Row → List ℕ → Result Head RefusalAt
head_of mark table b =
    cond (starts_with_of mark b)
    (cond (ltb (length b) 7) (Err (wrong_length_of (length b) 7)) (versioned_of (layout_of table (half_at b 3)) (length b) (half_at b 5)))
    (Err (refusal_at Mark 0))
