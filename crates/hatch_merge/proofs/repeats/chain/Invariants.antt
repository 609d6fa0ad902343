use Rattle.hatch_merge.specs.Parts.{all_of}
use Rattle.hatch_merge.proofs.Chains.{Linked}
use Rattle.hatch_merge.proofs.repeats.chain.Given as goal

abbrev pub invariant-loop-k : goal.invariant-loop-k
invariant-loop-k l = Linked (all_of l.both) l.k l.before l.last
