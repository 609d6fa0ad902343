use Rattle.std.proofs.Common.{◌≡◌, sym, ap, ◌∙◌, arith}
use Rattle.stroke.specs.Walk.{position}
use Rattle.stroke.proofs.Stops.{exit_le}
use Rattle.stroke.proofs.Walking.{walking_from, walking_more, walking_out, walking_end}
use Rattle.pixels.proofs.course.Course.leave.Goals as goal

pub loop-steps-init : goal.loop-steps-init
loop-steps-init c = walking_from _ _ _ _ c.requires.at c.requires.few

pub loop-steps-preserved : goal.loop-steps-preserved
loop-steps-preserved c = walking_more c.loop-steps.invariant (omega arith) (sym c.spans.ensures ∙ c.if-not-spans.false) _ c.next-position.ensures

pub returns-then-not-spans : goal.returns-then-not-spans
returns-then-not-spans c =
    let i = c.loop-steps.invariant in
    i.position_is ∙ ap (position c.args.self.walk.x c.args.self.walk.y) (walking_out i (sym c.spans.ensures ∙ c.if-not-spans.true))

pub returns : goal.returns
returns c =
    let i = c.loop-steps.invariant in
    let e : c.loop-steps._steps ≡ 131074 = omega (arith, exit_le c.args.self.walk.x c.args.self.walk.y) in
    i.position_is ∙ ap (position c.args.self.walk.x c.args.self.walk.y) (e ∙ walking_end i e)
