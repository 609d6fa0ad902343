use Rattle.std.proofs.Common.{sym, ◌∙◌}
use Rattle.hatch_format.specs.Format.{hsl}
use Rattle.hatch_format.proofs.Records.{held}
use Rattle.text.proofs.Laws.{many, same}
use Rattle.report.proofs.Room.{refusal, records}
use Rattle.report.proofs.put_report.Goals as goal

pub put_lines-requires : goal.put_lines-requires
put_lines-requires c = held hsl _ _ _ (sym c.head_of.ensures.answers ∙ c.in-Ok.is)

-- the text is that of what the file says
pub returns-in-Err : goal.returns-in-Err
returns-in-Err c = same (refusal _ c.head_of.ensures.answers c.in-Err.is) c.put_refusal.ensures

pub returns-in-Ok : goal.returns-in-Ok
returns-in-Ok c = same (records _ c.head_of.ensures.answers c.in-Ok.is) (many _ _ c.put_opening.ensures c.put_lines.ensures)
