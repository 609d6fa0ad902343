use Rattle.std.proofs.Common.{◌≡◌, take}
use Rattle.std.proofs.lemmas.List.Edits.{sets}
use Rattle.hatch_merge.specs.Parts.{flat, numbered}
use Rattle.hatch_merge.proofs.put.put_numbered.Given as goal

-- the first i of them are stored
abbrev pub invariant-loop-i : goal.invariant-loop-i
invariant-loop-i l = l.out ≡ sets l.initial.out l.at (flat (take l.i (numbered l.records l.numbers)))
