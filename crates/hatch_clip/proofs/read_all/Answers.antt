use Rattle.std.proofs.Common.{rules}
use Rattle.hatch_clip.proofs.Printed.{read_more}
use Rattle.hatch_clip.proofs.read_all.Goals as goal

pub loop-n-preserved : goal.loop-n-preserved
loop-n-preserved g c =
    let v = c.loop-n.invariant in
    let told = c.in_ok-more.ensures in
    record { bound = search rules; bytes = read_more _ _ _ c.loop-n.buffer c.read.new.buf _ c.loop-n.n c.in_ok-more.more v.bound told.bound.0 v.bytes told.bytes.0 }
