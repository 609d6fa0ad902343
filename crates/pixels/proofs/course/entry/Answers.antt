use Rattle.std.proofs.Common.{sym, ◌∙◌, inl, inr, arith}
use Rattle.pixels.proofs.Entering.{entering_none, entering_more, entry_out, entry_lies, entry_end, entry_missed}
use Rattle.pixels.proofs.course.entry.Goals.{then-not-spans-via-then-not-spans, then-not-spans-via-else-not-spans+then-contains}
use Rattle.pixels.proofs.course.entry.Goals.{then-misses-via-then-misses, then-misses-via-else-misses+then-misses-2}
use Rattle.pixels.proofs.course.entry.Goals as goal

pub loop-steps-init : goal.loop-steps-init
loop-steps-init c = entering_none _ _ _ _ _ c.first-position.ensures

pub loop-steps-preserved : goal.loop-steps-preserved
loop-steps-preserved c =
    entering_more c.loop-steps.invariant (omega arith) (sym c.spans.ensures ∙ c.if-not-spans.false) (sym c.contains.ensures ∙ c.if-contains.false)
    _ c.next-position.ensures

pub returns-then-not-spans : goal.returns-then-not-spans
returns-then-not-spans c = elim c.then-not-spans.branch [
  | then-not-spans-via-then-not-spans w ↦ entry_out c.loop-steps.invariant (sym c.spans.ensures ∙ w.if-not-spans.true)
  | then-not-spans-via-else-not-spans+then-contains w ↦
      entry_lies c.loop-steps.invariant (sym c.spans.ensures ∙ w.if-not-spans.false) (sym w.contains.ensures ∙ w.if-contains.true)
]

pub returns : goal.returns
returns c = entry_end c.loop-steps.invariant (omega arith)

pub returns-then-misses : goal.returns-then-misses
returns-then-misses c = elim c.then-misses.branch [
  | then-misses-via-then-misses w ↦
      entry_missed c.args.image.width c.args.image.height c.args.walk.x c.args.walk.y (inl (sym c.misses.ensures ∙ w.if-misses.true)) _ c.first-position.ensures
  | then-misses-via-else-misses+then-misses-2 w ↦
      entry_missed c.args.image.width c.args.image.height c.args.walk.x c.args.walk.y (inr (sym w.misses-else-misses.ensures ∙ w.if-misses-2.true)) _ c.first-position.ensures
]
