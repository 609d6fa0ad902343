use Rattle.axes.proofs.Ranges.{Widened, Tested}
use Rattle.axes.proofs.search.span.Given as goal

abbrev pub invariant-loop-p : goal.invariant-loop-p
invariant-loop-p g l = Widened g.V.Vector.dot l.ps l.axis l.p-index l.span × Tested g.V.Vector.dot l.ps l.axis l.p-index l.has_nan
