use Rattle.text.proofs.Laws.{many}
use Rattle.report.specs.Report.{refusal_of}
use Rattle.report.proofs.put_refusal.Goals as goal

-- four texts, one after the other
pub returns : goal.returns
unfolding refusal_of
returns c =
    rw (← c.number.ensures)
    (many _ _ c.put.ensures (many _ _ c.put_field.ensures (many _ _ c.put_field-2.ensures c.put-2.ensures)))
