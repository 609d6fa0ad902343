use Rattle.pixels.proofs.Answers.{inside_of, counted}
use Rattle.pixels.proofs.course.Course.has_room.Goals as goal

pub returns : goal.returns
returns c =
    let s = c.stretch-last.ensures in counted _ _ c.args.self.paced s _ (inside_of _ _ c.args.self.paced s _ c.is_inside.ensures)
