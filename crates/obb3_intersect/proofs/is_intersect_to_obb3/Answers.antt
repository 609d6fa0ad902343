-- The edges of a box end the search, unless they say yes.
use Rattle.std.proofs.Common.{arith}
use Rattle.obb3_intersect.proofs.Parts.{first_ends, second_ends}
use Rattle.obb3_intersect.proofs.is_intersect_to_obb3.Goals as goal

pub returns-in_err-verdict : goal.returns-in_err-verdict
returns-in_err-verdict c = grind (arith, first_ends c.args.a c.args.b)

pub returns-then-not-branch : goal.returns-then-not-branch
returns-then-not-branch c = grind (arith, first_ends c.args.a c.args.b)

pub returns-in_err-verdict-2 : goal.returns-in_err-verdict-2
returns-in_err-verdict-2 c = grind (arith, second_ends c.args.a c.args.b)

pub returns-then-not-branch-2 : goal.returns-then-not-branch-2
returns-then-not-branch-2 c = grind (arith, second_ends c.args.a c.args.b)
