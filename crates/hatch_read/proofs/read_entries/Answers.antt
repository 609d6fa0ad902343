use Rattle.hatch_read.proofs.Reading.{whole}
use Rattle.hatch_read.proofs.read_entries.Goals as goal

pub load-requires : goal.load-requires
load-requires g c = whole _ _ _ c.in_ok-head.ensures
