use Rattle.std.proofs.Common.{◌≡◌, ◌*◌}
use Rattle.std.specs.Iterator.Adapters.{enumerate_source, enumerate_count}
use Rattle.std.specs.Slice.Iter.{chunks_exact_size, chunks_exact_rest}
use Rattle.hatch_format.proofs.Records.{Left}
use Rattle.hatch_read.proofs.Loading.{filled}
use Rattle.hatch_read.proofs.load.Given as goal

-- with the entries of the records so far in the list, and the other records to come
abbrev pub invariant-loop-i : goal.invariant-loop-i
invariant-loop-i g l =
    let records = l.i-iterator in
    let i = enumerate_count records in
    record {
      wide : chunks_exact_size (enumerate_source records) ≡ l.fn.head.row.width;
      left : Left l.fn.head.row.width l.fn.head.count l.bytes i (chunks_exact_rest (enumerate_source records));
      filled : l.out ≡ filled g.E.Entry.of_bits l.fn.head.row.width l.bytes (8 * i) l.fn.out;
    }
