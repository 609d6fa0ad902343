use Rattle.std.proofs.Common.{ap}
use Rattle.text.specs.Numbers.{hex8}
use Rattle.text.proofs.Laws.{many, same}
use Rattle.report.specs.Report.{end_of}
use Rattle.report.proofs.put_end.Goals as goal

-- a space, then the digits
pub returns : goal.returns
unfolding end_of
returns c = many _ _ c.put.ensures (same (ap hex8 c.shown_bits.ensures) c.put_hex8.ensures)
