-- What is promised of a call that merges two files: `answer` is its answer, l the lent list before it and l' the list after it. Definitions only.
use Rattle.std.specs.Prelude.{◌≡◌, List, ℕ, ◌*◌, ◌≤◌, length, take, Result, Ok}
use Rattle.lists.specs.Lent.{written}
use Rattle.hatch_format.specs.Format.{hsl, rows}
use Rattle.hatch_format.specs.HatchList.{HatchList}
use Rattle.hatch_format.specs.Decode.{accepted}
use Rattle.hatch_read.specs.Read.{decode_into}
use Rattle.hatch_encode.specs.Encode.{records_in}
use Rattle.hatch_merge.specs.declared.refusal.RefusalIn.{RefusalIn}
use Rattle.hatch_merge.specs.IsMerge.{IsMerge}

-- the reader accepts the file with any list that has room for its records, and reads these records, each the bits of its eight floats
pub record ReadsAs (file : List ℕ) (records : List (List ℕ)) : Type 0 where
  pub bits : List ℕ
  pub accepts : (room : ℕ) → 8 * length records ≤ room → decode_into hsl rows room file ≡ accepted 1 (length records) bits
  pub same : records_in bits ≡ records

-- `merged` is read as the merge of what the files `first` and `second` are read as
pub record ReadsAsMerge (first second merged : List ℕ) : Type 0 where
  pub firsts : List (List ℕ)
  pub seconds : List (List ℕ)
  pub records : List (List ℕ)
  pub reads_first : ReadsAs first firsts
  pub reads_second : ReadsAs second seconds
  pub reads_merged : ReadsAs merged records
  pub merges : IsMerge firsts seconds records

-- if there is no refusal, the bytes counted are read as the merge of the two files
abbrev pub MergesRecords : List ℕ → List ℕ → Result ℕ RefusalIn → List ℕ → Type 0
MergesRecords first second answer l' = (size : ℕ) → answer ≡ Ok size → ReadsAsMerge first second (take size l')

-- of two hatch lists, of which the second has no records, the merge is the first, byte for byte, where the list has room for it
abbrev pub EmptySecond : List ℕ → List ℕ → Result ℕ RefusalIn → List ℕ → List ℕ → Type 0
EmptySecond first second answer l l' =
    (n : ℕ) → HatchList hsl first n → HatchList hsl second 0 → length first ≤ length l → (answer ≡ Ok (length first)) × (l' ≡ written first l)
