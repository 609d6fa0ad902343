use Rattle.std.proofs.Common.{arith}
use Rattle.aabb_lines.proofs.Results.{next_line}
use Rattle.aabb_lines.proofs.write_results.Goals as goal

pub loop-i-preserved : goal.loop-i-preserved
loop-i-preserved c =
    let a = c.args in
    next_line a.b a.lines.now c.loop-i.i a.out.now _ _ _ c.loop-i-test.true c.requires (omega arith) c.result_of.ensures c.loop-i.invariant
