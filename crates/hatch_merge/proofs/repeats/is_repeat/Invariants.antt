use Rattle.hatch_merge.specs.Parts.{all_of}
use Rattle.hatch_merge.proofs.Chains.{Sought, left}
use Rattle.hatch_merge.proofs.repeats.is_repeat.Given as goal

abbrev pub invariant-loop-earlier : goal.invariant-loop-earlier
invariant-loop-earlier l = Sought (all_of l.both) l.record l.k l.earlier

abbrev pub decreases-loop-earlier : goal.decreases-loop-earlier
decreases-loop-earlier l = left l.earlier
