use Rattle.std.proofs.lemmas.Result.{err_from_is_err_and}
use Rattle.pixels.proofs.Promised.{refused}
use Rattle.pixels.proofs.walk.walk.Goals as goal

-- a stroke that is not accepted is refused as `Accepted::new` refuses it
pub returns-in_err-stroke : goal.returns-in_err-stroke
returns-in_err-stroke g c =
    let s = c.args in
    let told = err_from_is_err_and c.from_residual.result c.from_residual.ensures.1 in
    rw (told.1, told.2) (refused _ s.width s.height s.p0 s.p1 s.list.now _ c.in_err-stroke.ensures.refused)
