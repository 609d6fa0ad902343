-- That what a writer wrote reads as what it was written from, and that what was read is written as the bytes that it was read from. Both are said of
-- a call of a writer: `answer` is its answer, l the list of bytes before it and l' the list after it. f is what the bits of a float are read as. The
-- reader has a list of any room. Definitions only.
use Rattle.std.specs.Prelude.{◌≡◌, List, map, ℕ, ◌*◌, ◌≤◌, length, take, Result, Ok}
use Rattle.std.specs.List.{All}
use Rattle.types.specs.declared.refusal.Refusal.{Refusal}
use Rattle.lists.specs.Lent.{written}
use Rattle.hatch_format.specs.Format.{hsl, rows}
use Rattle.hatch_format.specs.Decode.{record_count_of, Answer, accepted}
use Rattle.hatch_read.specs.Read.{decode_into}
use Rattle.hatch_encode.specs.Encode.{whole_records}
use Rattle.hatch_encode.specs.RoundTrip.{Below}

-- `said` is that a file has version 1 and these records
pub record Says {A : Type 0} (f : ℕ → A) (records : List A) (said : Answer) : Type 0 where
  pub bits : List ℕ
  pub accepts : said ≡ accepted 1 (record_count_of records) bits
  pub same : map f bits ≡ whole_records records

-- the bytes that were written read as the records that they were written from
abbrev pub ReadBack : {A : Type 0} → (ℕ → A) → List A → Result ℕ Refusal → List ℕ → Type 0
ReadBack f records answer l' =
    (m room : ℕ) → answer ≡ Ok m → 8 * record_count_of records ≤ room → Says f records (decode_into hsl rows room (take m l'))

-- The records of a file that the reader accepts are written as the bytes of that file, if Keeps holds of the bits of each of their floats. b is the
-- file and ps are these bits.
abbrev pub Rewritten : {A : Type 0} → (ℕ → A) → (ℕ → Type 0) → List A → Result ℕ Refusal → List ℕ → List ℕ → Type 0
Rewritten f Keeps records answer l l' =
    (b : List ℕ) → Below 256 b → (room v n : ℕ) (ps : List ℕ) → decode_into hsl rows room b ≡ accepted v n ps → records ≡ map f ps → All Keeps ps
    → length b ≤ length l → (answer ≡ Ok (length b)) × (l' ≡ written b l)
