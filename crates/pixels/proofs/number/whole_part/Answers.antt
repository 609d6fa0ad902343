use Rattle.std.proofs.Common.{arith}
use denote.Floats.{passes}
use Rattle.pixels.proofs.Casts.{cut_le}
use Rattle.pixels.proofs.Whole.{digits_of}
use Rattle.pixels.proofs.number.whole_part.Goals as goal

pub float_to_bits-bits : goal.float_to_bits-bits
float_to_bits-bits c = (digits_of c.args.x (passes _ c.well_formed.0.1) c.requires.size c.requires.sign).number_is

pub overflow_cast-result : goal.overflow_cast-result
overflow_cast-result c =
    let d = digits_of c.args.x (passes _ c.well_formed.0.1) c.requires.size c.requires.sign in
    record { fits = omega (arith, d.bits_are, cut_le c.args.x c.requires.size) }

pub overflow_sub-result : goal.overflow_sub-result
overflow_sub-result c =
    let d = digits_of c.args.x (passes _ c.well_formed.0.1) c.requires.size c.requires.sign in omega (arith, d.bits_are)

pub returns : goal.returns
returns c =
    let d = digits_of c.args.x (passes _ c.well_formed.0.1) c.requires.size c.requires.sign in
    record { answers = omega (arith, d.bits_are); small = omega (arith, d.bits_are, cut_le c.args.x c.requires.size) }
