use Rattle.pixels.proofs.Choosing.{test_of, row_limits}
use Rattle.pixels.proofs.course.Course.along_rows.Goals as goal

pub run-requires-clause-y : goal.run-requires-clause-y
unfolding test_of
run-requires-clause-y g c = row_limits c.args.self c.requires.lies _ c.in-AtLeast.ensures

pub run-requires-in-AtMost-clause-y : goal.run-requires-in-AtMost-clause-y
unfolding test_of
run-requires-in-AtMost-clause-y g c = row_limits c.args.self c.requires.lies _ c.in-AtMost.ensures

pub run-requires-in-Below-clause-y : goal.run-requires-in-Below-clause-y
unfolding test_of
run-requires-in-Below-clause-y g c = row_limits c.args.self c.requires.lies _ c.in-Below.ensures
