use Rattle.stroke_check.proofs.Offenders.{Left}
use Rattle.stroke_check.proofs.within_limits.Given as goal

-- none of the coordinates before `place` offends
abbrev pub invariant-loop-place : goal.invariant-loop-place
invariant-loop-place l = Left l.coordinates l.place
