use Rattle.std.proofs.Common.{sym, ◌∙◌}
use Rattle.pixels.proofs.Choosing.{test_of, column_limits, stretch_none}
use Rattle.pixels.proofs.course.Course.stretch.Goals as goal

pub returns-then-not-is_inside : goal.returns-then-not-is_inside
returns-then-not-is_inside g c = stretch_none c.args.self.entry _ _ _ (sym c.is_inside.ensures ∙ c.if-not-is_inside.true)

pub along_rows-requires-clause-x : goal.along_rows-requires-clause-x
unfolding test_of
along_rows-requires-clause-x g c = column_limits c.args.self (sym c.is_inside.ensures ∙ c.if-not-is_inside.false) _ c.in-AtLeast.ensures

pub along_rows-requires-in-AtMost-clause-x : goal.along_rows-requires-in-AtMost-clause-x
unfolding test_of
along_rows-requires-in-AtMost-clause-x g c = column_limits c.args.self (sym c.is_inside.ensures ∙ c.if-not-is_inside.false) _ c.in-AtMost.ensures

pub along_rows-requires-in-Below-clause-x : goal.along_rows-requires-in-Below-clause-x
unfolding test_of
along_rows-requires-in-Below-clause-x g c = column_limits c.args.self (sym c.is_inside.ensures ∙ c.if-not-is_inside.false) _ c.in-Below.ensures
