use Rattle.std.proofs.Common.{ap, ◌∙◌, arith}
use Rattle.std.proofs.lemmas.List.Edits.{sets}
use Rattle.lists.specs.Lent.{leaves}
use Rattle.lists.proofs.Lent.{sets_written}
use Rattle.hatch_format.specs.Format.{hsl}
use Rattle.hatch_format.specs.declared.header.Row.{Row}
use Rattle.hatch_encode.specs.Encode.{head_bytes}
use Rattle.hatch_write.proofs.begin.Goals as goal

-- the header stands at the start of the list
pub returns-clause-leaves : goal.returns-clause-leaves
unfolding leaves
returns-clause-leaves c =
    let l = c.args.out.now in
    c.put_head.ensures
    ∙ ap (λ (q : Row). sets l 0 (head_bytes hsl q.version c.args.count)) c.version_one-row.ensures
    ∙ sets_written (head_bytes hsl 1 c.args.count) l (omega arith)
