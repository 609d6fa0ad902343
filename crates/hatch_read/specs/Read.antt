-- What a reader does with a hatch list. Definitions only.
use Rattle.std.specs.Prelude.{cond, List, map, ℕ, ◌*◌, ltb, Result, Ok, Err}
use Rattle.lists.specs.Lent.{written}
use Rattle.hatch_format.specs.Format.{expected_length, head_of}
use Rattle.hatch_format.specs.Decode.{Answer, body_of}
use Rattle.hatch_format.specs.declared.header.Row.{Row}
use Rattle.hatch_format.specs.declared.header.Head.{Head}
use Rattle.hatch_read.specs.declared.Read.{Read}
use Rattle.types.specs.declared.refusal.Refusal.TheVariants.{Room}
use Rattle.types.specs.declared.refusal.RefusalAt.{RefusalAt}
use Rattle.types.specs.Refusal.{refusal_at}

-- the last test, of the list to read into: Room if its `room` entries are fewer than eight a record. Its byte is the length of the file
unfoldable pub with_room : ℕ → Result Head RefusalAt → Result Head RefusalAt
with_room room (Err at) = Err at
with_room room (Ok h) = cond (ltb room (8 * h.count)) (Err (refusal_at Room (expected_length h.row h.count))) (Ok h)

-- what a file says to a reader that has such a list
unfoldable pub decode_into : List ℕ → List Row → ℕ → List ℕ → Answer
decode_into mark table room b = body_of (with_room room (head_of mark table b)) b

-- what a reader answers
unfoldable pub read_of : Answer → Result Read RefusalAt
read_of (Err at) = Err at
read_of (Ok c) = Ok (record { version = c.version; count = c.count })

-- the lent list afterwards: its first entries are the floats, as f reads them from their bits; on a refusal it is as it was
unfoldable pub read_leaves : {A : Type 0} → (ℕ → A) → Answer → List A → List A
read_leaves f (Err at) l = l
read_leaves f (Ok c) l = written (map f c.patterns) l
