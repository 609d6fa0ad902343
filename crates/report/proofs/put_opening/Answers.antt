use Rattle.text.proofs.Laws.{many}
use Rattle.report.specs.Report.{opening_of}
use Rattle.report.proofs.put_opening.Goals as goal

-- four texts, one after the other
pub returns : goal.returns
unfolding opening_of
returns c = many _ _ c.put.ensures (many _ _ c.put_field.ensures (many _ _ c.put_field-2.ensures c.put-2.ensures))
