use Rattle.std.proofs.Common.{refl, arith}
use Rattle.hatch_encode.specs.Encode.{joined}
use Rattle.hatch_merge.proofs.Chunks.{each_wide}
use Rattle.hatch_merge.proofs.Storing.{stored_next}
use Rattle.hatch_merge.proofs.put.put_all.Goals as goal

pub loop-i-init : goal.loop-i-init
unfolding joined
loop-i-init c = refl

pub loop-i-preserved : goal.loop-i-preserved
loop-i-preserved c =
    let rs = c.args.records.now in
    stored_next rs (each_wide rs c.told-records) c.args.out.now c.args.at c.loop-i.i _ _ c.loop-i.out _ c.loop-i-test.true refl (omega arith) c.copy_from_slice.ensures.after c.loop-i.invariant
    (omega (arith, c.loop-i-test.true, c.requires, c.loop-i.auto.out))
