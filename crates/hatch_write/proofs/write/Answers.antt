use Rattle.std.proofs.Common.{◌*◌, map, sym, arith}
use Rattle.std.proofs.lemmas.List.{take-map, length-take}
use Rattle.std.specs.Prelude.{Ok}
use Rattle.std.proofs.lemmas.Result.{err_from_is_err_and}
use Rattle.lists.specs.Lent.{leaves}
use Rattle.hatch_format.specs.Decode.{record_count_of}
use Rattle.hatch_write.proofs.Writing.{words_fit, words_stored, count_mapped, saved}
use Rattle.hatch_write.proofs.write.Goals as goal

pub put_entries-requires : goal.put_entries-requires
put_entries-requires g c =
    let e = g.E.Entry in
    let b = c.in_ok-size.ensures in
    let es = c.args.entries.now in
    let room = words_fit (map e.bits_of es) c.args.out.now _ (sym (count_mapped e.bits_of es)) b.answers b.leaves in
    let n = 8 * record_count_of es in
    omega (arith, room, length-take n es)

pub returns : goal.returns
returns g c =
    let e = g.E.Entry in
    let laws = g.met.E.Entry in
    let b = c.in_ok-size.ensures in
    let es = c.args.entries.now in
    let l = c.args.out.now in
    let words = rw (sym (take-map e.bits_of (8 * record_count_of es) es)) at c.put_entries.ensures in
    let left = words_stored (map e.bits_of es) l _ (sym (count_mapped e.bits_of es)) b.answers b.leaves words in
    let s = saved e.Fits e.Keeps e.of_bits e.bits_of laws.bits_below laws.kept laws.pattern_kept es c.requires l c.put_entries.new.out (Ok c.in_ok-size.size) b.answers left in
    record { answers = b.answers; leaves = left; reads_back = s.0; rewrites = s.1 }

-- a refusal is that of `begin`, and the list is as it was
pub returns-in_err-size : goal.returns-in_err-size
unfolding leaves
returns-in_err-size g c =
    let told = err_from_is_err_and c.from_residual.result c.from_residual.ensures.1 in
    let e = g.E.Entry in
    let laws = g.met.E.Entry in
    let b = c.in_err-size.ensures in
    let es = c.args.entries.now in
    let s = saved e.Fits e.Keeps e.of_bits e.bits_of laws.bits_below laws.kept laws.pattern_kept es c.requires c.args.out.now _ _ b.answers b.leaves in
    rw (told.1, told.2) (record { answers = b.answers; leaves = b.leaves; reads_back = s.0; rewrites = s.1 })
