use Rattle.std.proofs.Common.{◌+◌, not, nat_eq}
use Rattle.pixels.proofs.Running.{Running}
use Rattle.pixels.proofs.course.Course.run.Given as goal

-- the entries so far stand in the list, if they are written
abbrev pub invariant-loop-count : goal.invariant-loop-count
invariant-loop-count g l = Running (not (nat_eq g.row.WRITE 0)) l.self.image.width l.self.image.height l.self.walk.x l.self.walk.y l.fn.list l.list l.position l.count (l.self.first.steps + l.count)
