use Rattle.std.proofs.Common.{sym, ◌∙◌}
use Rattle.stroke_check.proofs.Accepted.{floats_of}
use Rattle.stroke_ink.proofs.Promised.{measured}
use Rattle.stroke_ink.proofs.ink.Goals as goal

pub returns-then-is_ordered : goal.returns-then-is_ordered
returns-then-is_ordered c =
    measured (floats_of c.well_formed.0.1.1 c.well_formed.1.0.1.1) c.in_ok-within_limits.ensures (sym c.is_ordered.ensures ∙ c.if-is_ordered.true)
    c.drawn.ensures
