-- The cross products of the edges that are left decide.
use Rattle.std.proofs.Common.{drop}
use Rattle.obb3_intersect.specs.Intersect.{crosses_of}
use Rattle.obb3_intersect.proofs.Parts.{Decide}
use Rattle.obb3_intersect.proofs.is_intersect_to_obb3.Given as goal

abbrev pub invariant-loop-u : goal.invariant-loop-u
invariant-loop-u l = Decide l.fn.a l.fn.b (crosses_of (drop l.u-index l.u-items) l.vs)
