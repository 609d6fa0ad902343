use Rattle.std.specs.Float.Ieee.{of_bits}
use Rattle.tiles.proofs.Coordinate.{test_is}
use Rattle.tiles.proofs.bad_coordinate.Goals as goal

pub returns : goal.returns
unfolding of_bits
returns c = rw c.abs.ensures (test_is c.args.x c.well_formed.0.1)
