-- What the parts of the code do: the records of a file as their bytes, those that the second list adds, and the file of the merged ones.
-- Definitions only.
use Rattle.std.specs.Prelude.{◌≡◌, List, All, map, [], ◌++◌, ℕ, ◌-◌, ◌/◌, ◌<◌, get_or, length, drop, Result, Ok, Err}
use Rattle.std.specs.Simd.{first_chunks}
use Rattle.types.specs.declared.refusal.RefusalAt.{RefusalAt}
use Rattle.hatch_format.specs.Format.{hsl}
use Rattle.hatch_format.specs.declared.header.Head.{Head}
use Rattle.hatch_encode.specs.Encode.{joined, file_of}
use Rattle.hatch_merge.specs.declared.refusal.MergeList.{MergeList}
use Rattle.hatch_merge.specs.declared.refusal.RefusalIn.{RefusalIn}
use Rattle.hatch_merge.specs.declared.both.Both.{Both}
use Rattle.hatch_merge.specs.Merged.{added, merged}
use Rattle.hatch_merge.specs.Records.{same_bits}
use Rattle.hatch_merge.specs.Refusal.{refusal_in}

-- records, one after the other
abbrev pub flat : List (List ℕ) → List ℕ
flat records = joined (λ r. r) records

-- the file of records that are given as their bytes
abbrev pub flat_file : List (List ℕ) → List ℕ
flat_file records = file_of (λ r. r) hsl 1 records

-- the records of both lists, those of the second behind those of the first
abbrev pub all_of : Both → List (List ℕ)
all_of both = both.first.now ++ both.second.now

-- those that the second list adds, and the merged records
abbrev pub added_of : Both → List (List ℕ)
added_of both = added same_bits both.first.now both.second.now

abbrev pub merged_in : Both → List (List ℕ)
merged_in both = merged same_bits both.first.now both.second.now

-- the records of a file, as their bytes
abbrev pub parts_of : List ℕ → List (List ℕ)
parts_of file = first_chunks 32 ((length file - 7) / 32) (drop 7 file)

-- a header, or a refusal of it that is told of the list
abbrev pub head_in_of : MergeList → Result Head RefusalAt → Result Head RefusalIn
head_in_of list (Ok h) = Ok h
head_in_of list (Err at) = Err (refusal_in list at)

-- the records with these numbers, from 0 on
abbrev pub numbered : List (List ℕ) → List ℕ → List (List ℕ)
numbered records numbers = map (λ j. get_or records j []) numbers

-- the numbers are those of the records that the second list adds
pub record Adds (both : Both) (numbers : List ℕ) : Type 0 where
  pub inside : All (λ j. j < length both.second.now) numbers
  pub are : numbered both.second.now numbers ≡ added_of both
