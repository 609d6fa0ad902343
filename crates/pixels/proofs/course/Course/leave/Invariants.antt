use Rattle.stroke.proofs.Walking.{Walking}
use Rattle.pixels.proofs.course.Course.leave.Given as goal

abbrev pub invariant-loop-steps : goal.invariant-loop-steps
invariant-loop-steps l = Walking l.self.walk.x l.self.walk.y l.position l._steps
