use Rattle.std.proofs.Common.{◌<◌, ◌≤◌, ℕ, List, length, sym, ap, ◌∙◌, subst, arith}
use lib.ListN.{length-append}
use Rattle.hatch_merge.specs.Parts.{all_of}
use Rattle.hatch_merge.specs.Records.{same_bits}
use Rattle.hatch_merge.specs.declared.both.Both.{Both}
use Rattle.hatch_merge.proofs.Chains.{Sought, among, from_itself, within, from_other, found, goes_back}
use Rattle.hatch_merge.proofs.repeats.is_repeat.Goals as goal

few : (both : Both) (k : ℕ) → k < length (all_of both) → k ≤ 4000
few both k h = omega (arith, h, length-append both.first.now both.second.now, both.firsts, both.seconds)

pub loop-earlier-init : goal.loop-earlier-init
loop-earlier-init c =
    let all = all_of c.args.both in
    let k = c.args.k in
    subst (Sought all c.at-record.result.now k) (sym (c.requires.chained k c.requires.inside))
    (from_itself all c.at-record.result.now k c.requires.inside (few c.args.both k c.requires.inside) c.at-record.ensures)

pub returns-then-eq : goal.returns-then-eq
returns-then-eq c =
    let all = all_of c.args.both in
    let x = c.at-record.result.now in
    found all x c.args.k c.requires.inside (few c.args.both c.args.k c.requires.inside) c.loop-earlier.earlier c.loop-earlier-test.true c.loop-earlier.invariant
    (ap (same_bits x) (sym c.at.ensures) ∙ sym c.eq.ensures ∙ c.if-eq.true)
    ∙ ap (λ (x : List ℕ). among all x c.args.k) c.at-record.ensures

pub loop-earlier-smaller : goal.loop-earlier-smaller
loop-earlier-smaller c =
    let all = all_of c.args.both in
    let x = c.at-record.result.now in
    let less = few c.args.both c.args.k c.requires.inside in
    let inside = within all x c.args.k c.requires.inside less c.loop-earlier.earlier c.loop-earlier-test.true c.loop-earlier.invariant in
    goes_back all x c.args.k c.requires.inside less c.loop-earlier.earlier c.loop-earlier-test.true c.loop-earlier.invariant _ (c.requires.chained c.loop-earlier.earlier inside)

pub loop-earlier-preserved : goal.loop-earlier-preserved
loop-earlier-preserved c =
    let all = all_of c.args.both in
    let x = c.at-record.result.now in
    let less = few c.args.both c.args.k c.requires.inside in
    let inside = within all x c.args.k c.requires.inside less c.loop-earlier.earlier c.loop-earlier-test.true c.loop-earlier.invariant in
    subst (Sought all x c.args.k) (sym (c.requires.chained c.loop-earlier.earlier inside))
    (from_other all x c.args.k c.requires.inside less c.loop-earlier.earlier c.loop-earlier-test.true c.loop-earlier.invariant
    (ap (same_bits x) (sym c.at.ensures) ∙ sym c.eq.ensures ∙ c.if-eq.false))
