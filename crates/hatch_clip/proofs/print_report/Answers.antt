use Rattle.std.proofs.Common.{ℕ, take, replicate, arith}
use Rattle.std.proofs.lemmas.List.{length-take, length-replicate}
use Rattle.report.specs.declared.TheConstants.{REPORT_MAX}
use Rattle.hatch_clip.proofs.Printed.{printed}
use Rattle.hatch_clip.proofs.print_report.Goals as goal

pub returns : goal.returns
returns g c =
    let x = take c.in-Ok.n c.read_all.new.buffer in
    let e = c.report-m.ensures in
    printed _ x (replicate REPORT_MAX 0) c.report-m.new.out c.report-m.result c.in-Ok.ensures.bytes
    (omega (arith, length-take c.in-Ok.n c.read_all.new.buffer, c.read_all.auto.buffer)) e.means (omega (arith, e.fits, length-replicate {A = ℕ} REPORT_MAX 0)) _ _
    c.in-Ok-write_all.ensures.bytes
