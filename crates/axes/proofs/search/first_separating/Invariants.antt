-- Both ranges hold the projections so far, and no axis so far separates the corners.
use Rattle.std.proofs.Common.{◌≡◌, ◌<◌, false}
use Rattle.axes.specs.Axes.{separates, apart_of}
use Rattle.axes.proofs.First.{Searched}
use Rattle.axes.proofs.Ranges.{Widened}
use Rattle.axes.proofs.search.first_separating.Given as goal

abbrev pub invariant-loop-i : goal.invariant-loop-i
invariant-loop-i g l =
    record {
      of_ps : Widened g.V.Vector.dot l.ps l.axis l.i l.a;
      of_qs : Widened g.V.Vector.dot l.qs l.axis l.i l.b;
      met : 0 < l.i → l.i ≡ g.row.N → apart_of l.a l.b ≡ false;
    }

abbrev pub invariant-loop-j : goal.invariant-loop-j
invariant-loop-j g l = 0 < g.row.N → Searched (separates g.V.Vector.dot l.ps l.qs) l.axes l.j
