use Rattle.hatch_format.specs.Decode.{float_of}
use Rattle.hatch_read.proofs.Reading.{reads_exactly}
use Rattle.hatch_read.proofs.read_floats.Goals as goal

pub returns-clause-means : goal.returns-clause-means
returns-clause-means c = let told = c.read_entries.ensures in reads_exactly float_of _ _ _ told.answers told.leaves
