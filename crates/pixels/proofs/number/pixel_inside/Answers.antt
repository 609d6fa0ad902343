use Rattle.pixels.proofs.Casts.{signs}
use Rattle.pixels.proofs.number.pixel_inside.Goals as goal

pub whole_part-requires-clause-sign : goal.whole_part-requires-clause-sign
whole_part-requires-clause-sign c = (signs c.args.image.width c.args.image.height c.args.p c.requires.lies).1

pub whole_part-requires-2-clause-sign : goal.whole_part-requires-2-clause-sign
whole_part-requires-2-clause-sign c = (signs c.args.image.width c.args.image.height c.args.p c.requires.lies).0
