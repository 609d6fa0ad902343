-- A range that is refused ends the search; where no axis is left, the answer is yes.
use Rattle.std.proofs.Common.{rules, arith, sym, ◌∙◌}
use Rattle.axes.proofs.Decided.{first_refused, second_refused, passed_all}
use Rattle.axes.proofs.search.verdict.Goals as goal

pub returns-in_err-span : goal.returns-in_err-span
returns-in_err-span g c =
    let r = first_refused _ _ _ c.axis-item.is (omega arith) c.loop-axis.invariant (sym c.in_err-span.was ∙ c.span.ensures) in
    search (rules, r)

pub returns-in_err-span-2 : goal.returns-in_err-span-2
returns-in_err-span-2 g c =
    let r = second_refused _ _ _ c.axis-item.is (omega arith) c.loop-axis.invariant (sym c.in_err-span-2.was ∙ c.span-in-loop-axis.ensures) in
    search (rules, r)

pub returns : goal.returns
returns g c = passed_all _ _ _ (omega arith) c.loop-axis.invariant
