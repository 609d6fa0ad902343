-- where the square is not below the other, the root is not either
use Rattle.std.proofs.Common.{rules}
use Rattle.obb2_point.specs.Point.{nearer_of}
use Rattle.obb2_point.proofs.Roots.{no_lesser_root}
use Rattle.obb2_point.proofs.nearer.Goals as goal

pub returns-else-b-a : goal.returns-else-b-a
unfolding nearer_of
returns-else-b-a c = rw (no_lesser_root _ _ (search rules) (search rules) c.if-b-a.false)
