use Rattle.stroke_check.proofs.Accepted.{passed, floats_of}
use Rattle.stroke_bound.proofs.difference.larger_difference.Goals as goal

pub rounded_up-requires : goal.rounded_up-requires
rounded_up-requires c =
    let ends = (passed (floats_of c.well_formed.0.1.1.1.0.1.1 c.well_formed.0.1.1.1.1.0.1.1) c.args.stroke.accepted).stroke.ends in
    (ends.x0.size, ends.x1.size)

pub rounded_up-requires-2 : goal.rounded_up-requires-2
rounded_up-requires-2 c =
    let ends = (passed (floats_of c.well_formed.0.1.1.1.0.1.1 c.well_formed.0.1.1.1.1.0.1.1) c.args.stroke.accepted).stroke.ends in
    (ends.y0.size, ends.y1.size)
