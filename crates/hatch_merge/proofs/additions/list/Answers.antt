use Rattle.std.proofs.Common.{arith, refl, not, sym, ap, ◌∙◌}
use Rattle.hatch_merge.specs.Merged.{added}
use Rattle.hatch_merge.proofs.Storing.{added_by, listed_more, listed_same, listed_all}
use Rattle.hatch_merge.proofs.additions.list.Goals as goal
use Rattle.hatch_merge.proofs.additions.list.Goals.{then-not-is_repeat, else-not-is_repeat}

pub loop-j-init : goal.loop-j-init
unfolding added
loop-j-init c = record { few = omega arith; long = c.told-numbers; inside = λ i d h. absurd (omega arith); are = refl }

pub loop-j-preserved : goal.loop-j-preserved
loop-j-preserved c =
    let both = c.args.both in
    let j = c.loop-j.j in
    let added = added_by both j c.is_repeat.ensures in
    elim c.if-not-is_repeat.branch [
      | then-not-is_repeat w ↦ rw (w.count-is, w.numbers-is) (listed_more both j c.loop-j.count c.loop-j.numbers c.loop-j-test.true c.loop-j.invariant (sym added ∙ ap not w.if-not-is_repeat.true))
      | else-not-is_repeat w ↦ rw (w.count-is, w.numbers-is) (listed_same both j c.loop-j.count c.loop-j.numbers c.loop-j-test.true c.loop-j.invariant (sym added ∙ ap not w.if-not-is_repeat.false))
    ]

pub returns : goal.returns
returns c =
    let v = c.loop-j.invariant in
    let few = v.few in
    record { adds = listed_all c.args.both c.loop-j.j c.loop-j.count c.loop-j.numbers c.loop-j-test.false v; few = omega (arith, few, c.loop-j.auto.j-end) }
