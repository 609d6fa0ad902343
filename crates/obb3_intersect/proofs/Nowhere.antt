-- What stands past the end of a list of points of space.
use lib.Ieee.{nan}
use Rattle.types.specs.declared.shape.Vec3.{Vec3}

abbrev pub nowhere : Vec3
nowhere = record { x = nan; y = nan; z = nan }
