use Rattle.std.proofs.Common.{◌<◌, ℕ, [], get_or, length, refl, sym, ◌∙◌, arith}
use lib.ListN.{length-map}
use Rattle.hatch_merge.specs.Parts.{numbered}
use Rattle.hatch_encode.specs.Encode.{joined}
use Rattle.hatch_merge.proofs.Chunks.{each_wide}
use Rattle.hatch_merge.proofs.Storing.{stored_next, numbered_at, numbered_wide}
use Rattle.hatch_merge.proofs.put.put_numbered.Goals as goal

pub loop-i-init : goal.loop-i-init
unfolding joined
loop-i-init c = refl

pub loop-i-preserved : goal.loop-i-preserved
loop-i-preserved c =
    let records = c.args.records.now in
    let numbers = c.args.numbers.now in
    let wide = each_wide records c.told-records in
    let inside = c.requires.inside in
    let few : c.loop-i.i < length numbers = c.loop-i-test.true in
    stored_next (numbered records numbers) (numbered_wide records wide numbers inside) c.args.out.now c.args.at c.loop-i.i _ _ c.loop-i.out _
    (omega (arith, few, length-map numbers (λ (j : ℕ). get_or records j []))) refl (omega arith) (c.copy_from_slice.ensures.after ∙ sym (numbered_at records wide numbers inside c.loop-i.i few)) c.loop-i.invariant
    (omega (arith, few, c.requires.room, c.loop-i.auto.out))
