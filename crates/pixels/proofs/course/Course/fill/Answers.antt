use Rattle.std.proofs.Common.{◌≡◌, ◌<◌, ◌≤◌, ℕ, List, true, false, not, nat_eq, length, refl, ap, ◌∙◌, le_refl, arith}
use borrow.Author.Tests.{eq-eqb, ne_eqb}
use Rattle.lists.specs.Lent.{written}
use Rattle.stroke.specs.Image.{one_if_of}
use Rattle.stroke.specs.Walk.{exit}
use Rattle.pixels.specs.Entries.{number}
use Rattle.pixels.specs.Post.{entered}
use Rattle.pixels.proofs.Answers.{all_made, open_listing, closed_listing}
use Rattle.pixels.proofs.Running.{position_bounded}
use Rattle.pixels.proofs.course.Course.fill.Goals as goal

pub pixel-requires : goal.pixel-requires
pixel-requires g c = position_bounded c.args.self.paced _ (le_refl _) _ c.leave.ensures

pub returns-then-this-ne0 : goal.returns-then-this-ne0
returns-then-this-ne0 g c =
    let s = c.args in
    let t : not (nat_eq g.row.CLOSING 0) ≡ true = ap not (ne_eqb _ 0 c.if-this-ne0.true) in
    let made = c.stretch-last.ensures in
    let room : length (entered s.self.image.width s.self.image.height s.self.walk.x s.self.walk.y (exit s.self.walk.x s.self.walk.y)) < length s.list.now =
    omega (arith, c.requires, ap one_if_of t) in
    let all = all_made _ _ c.args.self.paced made (omega arith) in
    rw t
    (closed_listing _ _ _ _ _ room (made.reached.count_is ∙ ap length all) (made.list_is ∙ ap (λ (es : List ℕ). written es s.list.now) all) _
    (c.pixel.ensures ∙ ap (number s.self.image.width) c.leave.ensures) refl)

pub returns : goal.returns
returns g c =
    let s = c.args in
    let t : not (nat_eq g.row.CLOSING 0) ≡ false = ap not (eq-eqb _ 0 c.if-this-ne0.false) in
    let made = c.stretch.ensures in
    let room : length (entered s.self.image.width s.self.image.height s.self.walk.x s.self.walk.y (exit s.self.walk.x s.self.walk.y)) ≤ length s.list.now =
    omega (arith, c.requires) in
    let all = all_made _ _ c.args.self.paced made room in
    rw t (open_listing _ _ _ _ _ room (made.reached.count_is ∙ ap length all) (made.list_is ∙ ap (λ (es : List ℕ). written es s.list.now) all))
