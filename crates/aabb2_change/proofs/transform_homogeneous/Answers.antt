use Rattle.std.proofs.Common.{refl}
use Rattle.std.specs.Float.Ieee.{of_bits}
use Rattle.aabb2_change.specs.Change.{transform_homogeneous_of}
use Rattle.aabb2_change.proofs.transform_homogeneous.Goals as goal

-- the bits of both infinities
pub loop-p-init : goal.loop-p-init
unfolding of_bits transform_homogeneous_of
loop-p-init c = rw c.corners-p-items.ensures refl
