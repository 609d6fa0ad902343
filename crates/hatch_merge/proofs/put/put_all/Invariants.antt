use Rattle.std.proofs.Common.{◌≡◌, take}
use Rattle.std.proofs.lemmas.List.Edits.{sets}
use Rattle.hatch_merge.specs.Parts.{flat}
use Rattle.hatch_merge.proofs.put.put_all.Given as goal

-- the first i records are stored
abbrev pub invariant-loop-i : goal.invariant-loop-i
invariant-loop-i l = l.out ≡ sets l.initial.out l.at (flat (take l.i l.records))
