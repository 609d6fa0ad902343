use Rattle.aabb_lines.proofs.Results.{Written}
use Rattle.aabb_lines.proofs.write_results.Given as goal

-- after i turns the results of the first i lines are written
abbrev pub invariant-loop-i : goal.invariant-loop-i
invariant-loop-i l = Written l.b l.lines l.i l.fn.out l.out
