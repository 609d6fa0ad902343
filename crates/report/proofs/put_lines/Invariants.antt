use Rattle.std.proofs.Common.{◌≡◌, map}
use Rattle.std.specs.Iterator.Adapters.{enumerate_source, enumerate_count}
use Rattle.std.specs.Slice.Iter.{chunks_exact_size, chunks_exact_rest}
use Rattle.hatch_format.specs.Decode.{float_of, patterns_of}
use Rattle.hatch_format.proofs.Records.{Left}
use Rattle.text.specs.Page.{Adds}
use Rattle.report.specs.Report.{lines_of}
use Rattle.report.proofs.put_lines.Given as goal

-- with the lines of the records so far put, and the other records to come
abbrev pub invariant-loop-k : goal.invariant-loop-k
invariant-loop-k l =
    let h = l.fn.head in
    let records = l.k-iterator in
    let k = enumerate_count records in
    record {
      wide : chunks_exact_size (enumerate_source records) ≡ h.row.width;
      left : Left h.row.width h.count l.bytes k (chunks_exact_rest (enumerate_source records));
      lines : Adds l.initial.page (lines_of (map float_of (patterns_of h.row.width l.bytes h.count)) k) l.page;
    }
