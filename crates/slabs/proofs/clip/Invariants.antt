use Rattle.slabs.proofs.Clipped.{Clipped}
use Rattle.slabs.proofs.clip.Given as goal

-- of the first k slabs
abbrev pub invariant-loop-k : goal.invariant-loop-k
invariant-loop-k g l = Clipped l.slabs l.k l.tmin l.tmax l.edge
