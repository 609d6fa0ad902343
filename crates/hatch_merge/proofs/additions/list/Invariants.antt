use Rattle.hatch_merge.proofs.Storing.{Listed}
use Rattle.hatch_merge.proofs.additions.list.Given as goal

abbrev pub invariant-loop-j : goal.invariant-loop-j
invariant-loop-j l = Listed l.both l.j l.count l.numbers
