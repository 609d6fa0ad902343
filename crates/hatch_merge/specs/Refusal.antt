-- The refusals of a merge, each with its list. Definitions only.
use Rattle.std.specs.Prelude.{ℕ}
use Rattle.types.specs.declared.refusal.Refusal.{Refusal}
use Rattle.types.specs.declared.refusal.RefusalAt.{RefusalAt}
use Rattle.types.specs.Refusal.{nowhere}
use Rattle.hatch_merge.specs.declared.refusal.MergeList.{MergeList}
use Rattle.hatch_merge.specs.declared.refusal.MergeList.TheVariants.{Merged, First, Second}
use Rattle.hatch_merge.specs.declared.refusal.RefusalIn.{RefusalIn}

-- the numbers by which C knows the lists
abbrev pub number_of_list : MergeList → ℕ
number_of_list Merged = 0
number_of_list First = 1
number_of_list Second = 2

-- told of a list
abbrev pub refusal_in : MergeList → RefusalAt → RefusalIn
refusal_in list at = record { list = list; at = at }

-- told of the merged list, at byte 0
abbrev pub of_merged : Refusal → RefusalIn
of_merged refusal = refusal_in Merged (nowhere refusal)
