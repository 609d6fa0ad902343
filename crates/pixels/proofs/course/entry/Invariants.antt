use Rattle.pixels.proofs.Entering.{Entering}
use Rattle.pixels.proofs.course.entry.Given as goal

-- none of the positions before is in the image
abbrev pub invariant-loop-steps : goal.invariant-loop-steps
invariant-loop-steps l = Entering l.image.width l.image.height l.walk.x l.walk.y l.position l.steps
