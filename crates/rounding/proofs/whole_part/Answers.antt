use Rattle.std.proofs.Common.{arith}
use denote.Floats.{passes}
use Rattle.rounding.proofs.Shift.{field_low, field_high, whole_part}
use Rattle.rounding.proofs.whole_part.Goals as goal

-- the exponent's field says how many digits are behind the point
pub overflow_sub-result : goal.overflow_sub-result
overflow_sub-result c = omega (arith, field_high c.args.x (passes _ c.well_formed.0.1) c.requires.0 c.requires.1)

pub overflow_shr-result : goal.overflow_shr-result
overflow_shr-result c = omega (arith, field_low c.args.x (passes _ c.well_formed.0.1) c.requires.0 c.requires.1)

pub returns : goal.returns
returns c = whole_part c.args.x (passes _ c.well_formed.0.1) c.requires.0 c.requires.1
