use Rattle.std.proofs.Common.{arith, rules}
use Rattle.aabb_lines.proofs.Results.{one_line}
use Rattle.aabb_lines.proofs.result_of.Goals as goal

pub returns : goal.returns
returns c = one_line c.args.b c.args.line.now _ _ (omega arith) c.encoded.ensures (search rules)
