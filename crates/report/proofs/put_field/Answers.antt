use Rattle.text.proofs.Laws.{many}
use Rattle.report.specs.Report.{field_of}
use Rattle.report.proofs.put_field.Goals as goal

-- a space, then the number
pub returns : goal.returns
unfolding field_of
returns c = many _ _ c.put.ensures c.put_decimal.ensures
