use Rattle.std.proofs.Common.{◌≡◌, refl, ap, sym, ◌∙◌, subst}
use Rattle.slabs.specs.Clip.{clip_over, ahead_of}
use Rattle.slabs.specs.Entry.{with_edge, interval_of, crossing_ahead_of, IsEntered}
use Rattle.slabs.specs.Promise.{IsRayAnswer}
use Rattle.slabs.proofs.Promise.{line_answer, ray_answer}
use Rattle.slabs.proofs.Entry.{without_edge, ahead_told, ahead_entered}
use Rattle.slabs.proofs.clip_ahead.Goals as goal

pub returns : goal.returns
returns g c =
    let ss = c.args.slabs.now in
    let line = clip_over ss in
    let answers : c.ahead.result ≡ with_edge ss (ahead_of line) = c.ahead.ensures ∙ ap crossing_ahead_of c.clip.ensures.answers ∙ ahead_told ss line in
    record {
      answers = answers;
      means = (
        subst (IsRayAnswer ss) (sym (ap interval_of answers ∙ without_edge ss (ahead_of line))) (ray_answer ss line (line_answer ss line refl)),
        subst (IsEntered ss) (sym answers) (ahead_entered ss line (subst (IsEntered ss) c.clip.ensures.answers c.clip.ensures.means.1)),
      );
    }
