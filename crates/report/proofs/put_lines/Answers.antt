use Rattle.std.proofs.Common.{refl, ap, ◌∙◌, ◌+◌}
use Rattle.hatch_format.proofs.Records.{left_all, left_some, left_next, left_bits}
use Rattle.text.proofs.Laws.{same}
use Rattle.report.specs.Report.{clip_of, line_of}
use Rattle.report.proofs.Lines.{lines_none, lines_more, record_is}
use Rattle.report.proofs.put_lines.Goals as goal

pub loop-k-init : goal.loop-k-init
loop-k-init c =
    let records = c.enumerate-k-items.ensures in
    let chunks = c.chunks_exact.ensures in
    rw (c.into_iter-k-iterator.ensures.into_iter_gives, records.source, records.count, chunks.size, chunks.rest)
    (record { wide = refl; left = left_all _ _ _; lines = lines_none _ _ })

pub loop-k-preserved : goal.loop-k-preserved
loop-k-preserved c =
    let v = c.loop-k.invariant in
    let s = c.in-Some.ensures.steps in
    let h = c.args.head in
    let k = c.in-Some.k in
    let x = c.in-Some.record.now in
    let is = s.0.1.0 in
    let wide = s.0.1.1 ∙ v.wide in
    let left = rw (← s.1) at v.left in
    let bits = c.record_bits.ensures ∙ left_bits c.requires left x _ is wide in
    let record_k = c.from-r.ensures ∙ record_is h.row.width h.count c.args.bytes.now k (left_some c.requires left x _ is wide) bits in
    let clipped = c.intersections_against_line-clipped.ensures.answers ∙ ap clip_of record_k in
    record {
      wide = s.0.0 ∙ v.wide;
      left = rw (s.2, ← s.1) (left_next c.requires left x _ is wide);
      lines = rw (s.2, ← s.1) (lines_more _ k (rw (← s.1) at v.lines) (same (ap (line_of (k + 1)) clipped) c.put_line.ensures));
    }
