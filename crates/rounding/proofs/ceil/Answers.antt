use Rattle.std.proofs.Common.{ap, ◌∙◌}
use Rattle.std.specs.Float.Ieee.{neg}
use denote.Floats.{passes}
use Rattle.rounding.proofs.Whole.{ceil_by_floor}
use Rattle.rounding.proofs.Standard.{ceil_rounds}
use Rattle.rounding.proofs.ceil.Goals as goal

-- it is floor, with the sign turned before and after
pub returns : goal.returns
returns c =
    let x = c.args.x in
    ceil_rounds x _ (passes _ c.well_formed.0.1) (ap neg c.floor.ensures.answers ∙ ceil_by_floor x)
