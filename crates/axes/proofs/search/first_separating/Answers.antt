-- Both loops are left at the last corner where the ranges lie apart.
use Rattle.std.proofs.Common.{refl, sym, ◌∙◌, arith}
use Rattle.std.specs.Float.Ieee.{of_bits}
use Rattle.axes.proofs.First.{first_more, first_here}
use Rattle.axes.proofs.Ranges.{widened_more, widened_to_range, separates_by_ranges}
use Rattle.axes.proofs.search.first_separating.Goals as goal
use Rattle.axes.proofs.search.first_separating.Goals.{else-i-via-then-i+else-apart, else-i-via-else-i}

pub loop-i-init : goal.loop-i-init
unfolding of_bits
loop-i-init g c =
    record { of_ps = record { held = refl }; of_qs = record { held = refl }; met = λ h. absurd (omega (arith, h)) }

pub loop-i-preserved : goal.loop-i-preserved
loop-i-preserved g c =
    let inv = c.loop-i.invariant in
    record {
      of_ps = widened_more _ (omega arith) inv.of_ps c.dot.ensures c.widened-a.ensures;
      of_qs = widened_more _ (omega arith) inv.of_qs c.dot-in-loop-i.ensures c.widened-b.ensures;
      met = λ _ e. elim c.else-i.branch [
        | else-i-via-then-i+else-apart w ↦ sym w.apart.ensures ∙ w.if-apart.false
        | else-i-via-else-i w ↦ absurd (omega (arith, e, w.if-i.false))
      ];
    }

pub loop-j-preserved : goal.loop-j-preserved
loop-j-preserved g c n =
    let inv = c.loop-i.invariant in
    first_more _ _ c.index-axes-j.result c.index-axes-j.is (omega arith) (c.loop-j.invariant n)
    (separates_by_ranges _ _ _ _
    (widened_to_range (omega arith) inv.of_ps)
    (widened_to_range (omega arith) inv.of_qs)
    (sym (inv.met (omega arith) (omega arith))))

pub returns-then-apart-clause-found : goal.returns-then-apart-clause-found
returns-then-apart-clause-found g c n =
    let inv = c.loop-i.invariant in
    first_here _ _ c.index-axes-j.result c.index-axes-j.is (omega arith) (c.loop-j.invariant n)
    (separates_by_ranges _ _ _ _
    (widened_to_range (omega arith) (widened_more _ (omega arith) inv.of_ps c.dot.ensures c.widened-a.ensures))
    (widened_to_range (omega arith) (widened_more _ (omega arith) inv.of_qs c.dot-in-loop-i.ensures c.widened-b.ensures))
    (sym c.if-apart.true ∙ c.apart.ensures))
