-- The axes that are left decide.
use Rattle.axes.proofs.Decided.{Passed}
use Rattle.axes.proofs.search.verdict.Given as goal

abbrev pub invariant-loop-axis : goal.invariant-loop-axis
invariant-loop-axis g l = Passed g.V.Vector.dot l.ps l.qs l.axes l.axis-index
