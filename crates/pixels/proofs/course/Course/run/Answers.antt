use Rattle.std.proofs.Common.{◌≡◌, ◌+◌, ℕ, Bool, true, false, not, nat_eq, refl, sym, ap, ◌∙◌, subst, arith}
use borrow.Author.Tests.{eq-eqb, ne_eqb}
use mathlib.Core.Bool.{true≢false}
use Rattle.pixels.specs.Entries.{number}
use Rattle.pixels.specs.Post.{inside, Stretch}
use Rattle.pixels.proofs.Running.{running_none, running_more, running_end, whole, inside_here, position_bounded, lies, stored}
use Rattle.pixels.proofs.course.Course.run.Goals.{then-this-ne0, else-this-ne0}
use Rattle.pixels.proofs.course.Course.run.Goals as goal

pub loop-count-init : goal.loop-count-init
loop-count-init g c = running_none _ _ c.args.self.entry _ (omega arith)

pub pixel_inside-requires : goal.pixel_inside-requires
pixel_inside-requires g c =
    let s = c.args in
    let i = c.loop-count.invariant in
    let on : inside s.self.image.width s.self.image.height s.self.walk.x s.self.walk.y (s.self.first.steps + c.loop-count.count) ≡ true =
    inside_here _ _ c.args.self.paced c.requires.x c.requires.y _ (omega arith) i.few _ i.position_is true (sym c.allow.ensures ∙ c.if-not-allow.false) in
    record { bounded = position_bounded c.args.self.paced _ i.few _ i.position_is; lies = lies _ _ _ _ _ on _ i.position_is }

pub loop-count-preserved : goal.loop-count-preserved
loop-count-preserved g c =
    let s = c.args in
    let i = c.loop-count.invariant in
    let on : inside s.self.image.width s.self.image.height s.self.walk.x s.self.walk.y (s.self.first.steps + c.loop-count.count) ≡ true =
    inside_here _ _ c.args.self.paced c.requires.x c.requires.y _ (omega arith) i.few _ i.position_is true (sym c.allow.ensures ∙ c.if-not-allow.false) in
    elim c.if-this-ne0.branch [
      | then-this-ne0 w ↦
          let t : not (nat_eq g.row.WRITE 0) ≡ true = ap not (ne_eqb _ 0 w.if-this-ne0.true) in
          running_more c.args.self.paced i on (λ z. omega (arith, c.requires.room z)) _ c.next-position.ensures _ w.pixel_inside.ensures _ (omega arith) _
          (w.list-is ∙ ap (λ (u : Bool). stored u c.loop-count.list c.loop-count.count w.pixel_inside.result) (sym t))
      | else-this-ne0 w ↦
          let t : not (nat_eq g.row.WRITE 0) ≡ false = ap not (eq-eqb _ 0 w.if-this-ne0.false) in
          running_more c.args.self.paced i on (λ z. absurd (true≢false (sym z ∙ t))) _ c.next-position.ensures _ refl _ (omega arith) _
          (w.list-is ∙ ap (λ (u : Bool). stored u c.loop-count.list c.loop-count.count (number s.self.image.width c.loop-count.position)) (sym t))
    ]

pub returns-then-not-allow : goal.returns-then-not-allow
returns-then-not-allow g c =
    let s = c.args in
    let i = c.loop-count.invariant in
    let out : inside s.self.image.width s.self.image.height s.self.walk.x s.self.walk.y (s.self.first.steps + c.loop-count.count) ≡ false =
    inside_here _ _ c.args.self.paced c.requires.x c.requires.y _ (omega arith) i.few _ i.position_is false (sym c.allow.ensures ∙ c.if-not-allow.true) in
    running_end c.args.self.paced i (omega arith) (λ z. absurd (true≢false (sym z ∙ out))) (whole _ _ c.args.self.paced c.requires.x c.requires.y _ (omega arith) i.few)

pub returns : goal.returns
returns g c =
    let i = c.loop-count.invariant in
    let e : c.loop-count.count ≡ c.args.room = omega arith in
    subst (λ (n : ℕ). Stretch (not (nat_eq g.row.WRITE 0)) c.args.self.image.width c.args.self.image.height c.args.self.walk.x c.args.self.walk.y c.args.room
    (record { count = n; steps = c.args.self.first.steps + n; position = c.loop-count.position }) c.args.list.now c.loop-count.list) e
    (running_end c.args.self.paced i (omega arith) (λ z. e) (whole _ _ c.args.self.paced c.requires.x c.requires.y _ (omega arith) i.few))
