-- a float that is not at or above zero has no root
use Rattle.std.specs.Float.Ieee.{of_bits}
use Rattle.obb2_point.proofs.Roots.{no_root}
use Rattle.obb2_point.proofs.nan_distance.Goals as goal

pub returns : goal.returns
unfolding of_bits
returns c = no_root _
