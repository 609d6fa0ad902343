use Rattle.std.proofs.Common.{refl, ◌∙◌, arith}
use Rattle.hatch_format.proofs.Records.{left_all, left_some, left_next, left_bits}
use Rattle.hatch_read.proofs.Loading.{filled_none, filled_more}
use Rattle.hatch_read.proofs.load.Goals as goal

pub loop-i-init : goal.loop-i-init
loop-i-init g c =
    let records = c.enumerate-i-items.ensures in
    let chunks = c.chunks_exact.ensures in
    rw (c.into_iter-i-iterator.ensures.into_iter_gives, records.source, records.count, chunks.size, chunks.rest)
    (record { wide = refl; left = left_all _ _ _; filled = filled_none g.E.Entry.of_bits _ _ _ })

pub loop-i-preserved : goal.loop-i-preserved
loop-i-preserved g c =
    let v = c.loop-i.invariant in
    let s = c.in-Some.ensures.steps in
    let whole = c.requires.0 in
    let wide = s.0.1.1 ∙ v.wide in
    let x = c.in-Some.record.now in
    let is = s.0.1.0 in
    let bits = c.record_bits-bits.ensures ∙ left_bits whole v.left x _ is wide in
    record {
      wide = s.0.0 ∙ v.wide;
      left = rw s.2 (left_next whole v.left x _ is wide);
      filled =
          rw (s.1, s.2, c.put_record.ensures, v.filled)
          (filled_more g.E.Entry.of_bits _ _ _ _ _ bits (omega (arith, c.requires.1, left_some whole v.left x _ is wide)));
    }
