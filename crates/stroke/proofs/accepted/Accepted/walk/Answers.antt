use Rattle.stroke_check.proofs.Accepted.{passed, floats_of}
use Rattle.stroke.proofs.Paces.{walk_paced}
use Rattle.stroke.proofs.accepted.Accepted.walk.Goals as goal

pub returns-clause-paced : goal.returns-clause-paced
returns-clause-paced c =
    walk_paced (passed (floats_of c.well_formed.0.1.1.1.0.1.1 c.well_formed.0.1.1.1.1.0.1.1) c.args.self.accepted) c.between.ensures.x c.between.ensures.y
