use Rattle.std.proofs.Common.{◌+◌, ◌<◌, false, not, nat_eq, length, sym, ◌∙◌, leb-true, leb-false, arith}
use Rattle.stroke_check.proofs.Accepted.{passed, floats_of}
use Rattle.stroke.specs.Walk.{exit}
use Rattle.stroke.specs.Image.{one_if_of}
use Rattle.pixels.specs.Post.{entered}
use Rattle.pixels.proofs.Answers.{Made, made_listing, made_length, short_listing, as_number}
use Rattle.pixels.proofs.Promised.{ample, walked}
use Rattle.pixels.proofs.walk.draw.Goals.{then-is_ample-via-then-is_ample, then-is_ample-via-else-is_ample+then-has_room, then-more-list+else-is_ample+else-has_room, else-more-list}
use Rattle.pixels.proofs.walk.draw.Goals as goal

pub fill-requires : goal.fill-requires
fill-requires g c =
    let s = c.args.stroke in
    let v = passed (floats_of c.well_formed.0.1.1.1.0.1.1 c.well_formed.0.1.1.1.1.0.1.1) s.accepted in
    let made : Made s.image s.p0 s.p1 c.new-course.result = record { image_is = c.new-course.ensures.image; a_is = c.new-course.ensures.x; b_is = c.new-course.ensures.y } in
    let n = as_number (not (nat_eq g.row.CLOSING 0)) in
    elim c.then-is_ample.branch [
      | then-is_ample-via-then-is_ample w ↦
          omega (arith, n, made_length made, ample false s.image.width s.image.height s.p0 s.p1 c.args.list.now v _ (sym c.is_ample.ensures ∙ w.if-is_ample.true))
      | then-is_ample-via-else-is_ample+then-has_room w ↦ omega (arith, n, leb-true _ _ (sym w.has_room.ensures ∙ w.if-has_room.true))
    ]

pub returns-then-is_ample : goal.returns-then-is_ample
returns-then-is_ample g c =
    let s = c.args.stroke in
    let v = passed (floats_of c.well_formed.0.1.1.1.0.1.1 c.well_formed.0.1.1.1.1.0.1.1) s.accepted in
    let made : Made s.image s.p0 s.p1 c.new-course.result = record { image_is = c.new-course.ensures.image; a_is = c.new-course.ensures.x; b_is = c.new-course.ensures.y } in
    walked _ s.image.width s.image.height s.p0 s.p1 c.args.list.now v s.accepted _ _ (made_listing made _ c.args.list.now _ _ c.fill.ensures)

pub returns : goal.returns
returns g c =
    let s = c.args.stroke in
    let v = passed (floats_of c.well_formed.0.1.1.1.0.1.1 c.well_formed.0.1.1.1.1.0.1.1) s.accepted in
    let course = c.new-course.result in
    let made : Made s.image s.p0 s.p1 course = record { image_is = c.new-course.ensures.image; a_is = c.new-course.ensures.x; b_is = c.new-course.ensures.y } in
    let t = not (nat_eq g.row.CLOSING 0) in
    let n = as_number t in
    let short : length c.args.list.now < length (entered course.image.width course.image.height course.walk.x course.walk.y (exit course.walk.x course.walk.y)) + one_if_of t =
    elim c.if-more-list.branch [
      | then-more-list+else-is_ample+else-has_room w ↦ omega (arith, n, leb-false _ _ (sym w.has_room.ensures ∙ w.if-has_room.false))
      | else-more-list w ↦ omega (arith, n, w.if-more-list.false)
    ] in
    rw c.into.ensures
    (walked _ s.image.width s.image.height s.p0 s.p1 c.args.list.now v s.accepted _ _ (made_listing made _ c.args.list.now _ _ (short_listing _ _ _ _ _ _ short)))
