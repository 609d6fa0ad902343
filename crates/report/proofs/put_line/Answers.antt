use Rattle.std.proofs.Common.{ap, sym}
use Rattle.text.proofs.Laws.{many, same}
use Rattle.report.specs.Report.{line_of}
use Rattle.report.proofs.put_line.Goals as goal

-- the texts of a miss or of a hit, one after the other
pub returns-in-Miss : goal.returns-in-Miss
unfolding line_of
returns-in-Miss c = same (sym (ap (line_of _) c.in-Miss.is)) (many _ _ c.put_decimal.ensures c.put.ensures)

pub returns-in-Hit : goal.returns-in-Hit
unfolding line_of
returns-in-Hit c =
    same (sym (ap (line_of _) c.in-Hit.is))
    (many _ _ c.put_decimal.ensures
    (many _ _ c.put-in-Hit.ensures
    (many _ _ c.put_end.ensures
    (many _ _ c.put_end-in-Hit.ensures
    (many _ _ c.put_edge.ensures
    c.put-in-Hit-2.ensures)))))
