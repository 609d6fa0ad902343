-- What a merge of two hatch lists answers, and the bytes of the merged list. Definitions only.
use Rattle.std.specs.Prelude.{List, [], ℕ, length, Result, Ok, Err}
use Rattle.types.specs.declared.refusal.Refusal.{Refusal}
use Rattle.hatch_format.specs.Format.{hsl, version_one_of, rows}
use Rattle.hatch_format.specs.Decode.{Answer, decode}
use Rattle.hatch_encode.specs.Encode.{record_bytes, file_of}
use Rattle.hatch_write.specs.Write.{size_of}
use Rattle.hatch_merge.specs.declared.refusal.MergeList.TheVariants.{First, Second}
use Rattle.hatch_merge.specs.declared.refusal.RefusalIn.{RefusalIn}
use Rattle.hatch_merge.specs.Records.{merged_records}
use Rattle.hatch_merge.specs.Refusal.{refusal_in, of_merged}

-- a writer's answer, whose refusals are told of the merged list
abbrev pub in_merged : Result ℕ Refusal → Result ℕ RefusalIn
in_merged (Ok n) = Ok n
in_merged (Err refusal) = Err (of_merged refusal)

-- of what two files say, and the bytes that there is room for: a refusal of the first file, then of the second, then of the merged list: Count for
-- more than 2,000 records, then Room; else how many bytes the merged list has
unfoldable pub answer_to : ℕ → Answer → Answer → Result ℕ RefusalIn
answer_to room (Err at) b = Err (refusal_in First at)
answer_to room (Ok c) (Err at) = Err (refusal_in Second at)
answer_to room (Ok c) (Ok d) = in_merged (size_of version_one_of (length (merged_records c d)) room)

-- the bytes of the merged list
unfoldable pub file_from : Answer → Answer → List ℕ
file_from (Err at) b = []
file_from (Ok c) (Err at) = []
file_from (Ok c) (Ok d) = file_of record_bytes hsl 1 (merged_records c d)

-- the answer to two files, with the list l to write to, and the merged file
abbrev pub merge_of : List ℕ → List ℕ → List ℕ → Result ℕ RefusalIn
merge_of first second l = answer_to (length l) (decode hsl rows first) (decode hsl rows second)

abbrev pub merged_file : List ℕ → List ℕ → List ℕ
merged_file first second = file_from (decode hsl rows first) (decode hsl rows second)
