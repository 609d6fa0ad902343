use Rattle.std.proofs.Common.{ℕ, ◌<◌, ap, ◌∙◌, arith}
use lib.ListN.{length-append, length-replicate}
use Rattle.std.proofs.lemmas.List.{get_or-replicate}
use Rattle.hatch_merge.specs.Parts.{all_of}
use Rattle.hatch_merge.specs.Chains.{bucket_of, last_of}
use Rattle.hatch_merge.proofs.Chains.{linked_next}
use Rattle.hatch_merge.proofs.repeats.chain.Goals as goal

pub loop-k-init : goal.loop-k-init
unfolding last_of
loop-k-init c = record {
  chained = λ i h. absurd (omega arith);
  ends = λ bucket h. get_or-replicate 4096 bucket 4000 0 h;
  many = c.told-before;
  buckets = length-replicate {A = ℕ} 4096 4000;
}

pub loop-k-preserved : goal.loop-k-preserved
loop-k-preserved c =
    let both = c.args.both in
    let few : c.loop-k.k < 4000 = omega (arith, c.loop-k-test.true, c.len-k-end.ensures, length-append both.first.now both.second.now, both.firsts, both.seconds) in
    linked_next (all_of both) c.loop-k.k c.bucket-own.result c.loop-k.before c.loop-k.last c.loop-k.invariant few
    (c.bucket-own.ensures.0 ∙ ap bucket_of c.at.ensures) c.bucket-own.ensures.1
