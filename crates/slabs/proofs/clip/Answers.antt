use Rattle.std.specs.Prelude.{◌≡◌, ◌<◌, true, false, length, not}
use Rattle.std.specs.Float.Ieee.{of_bits, neg, ne}
use Rattle.std.proofs.Common.{sym, ap, ◌∙◌, arith}
use Rattle.float.specs.Values.{lesser_of, greater_of}
use Rattle.float.proofs.Laws.{mended_min, mended_max}
use Rattle.slabs.specs.declared.Interval.TheVariants.{Miss, Hit}
use Rattle.slabs.specs.Clip.{entry_of, exit_of}
use Rattle.slabs.proofs.Promise.{line_answer, answer_laws}
use Rattle.slabs.proofs.Clipped.{none_clipped, next_raised, next_still, next_along, next_beside, last_hit, last_miss}
use Rattle.slabs.proofs.Entry.{told_miss}
use Rattle.slabs.proofs.clip.Goals.{else-s, then-at_low-entry, else-at_low-entry, then-entry-tmin, else-entry-tmin, then-s+else-is_outside}
use Rattle.slabs.proofs.clip.Goals as goal

pub loop-k-init : goal.loop-k-init
unfolding of_bits neg
loop-k-init g c = none_clipped c.args.slabs.now

-- The code puts the second quotient in the place of a NaN in the first: the lesser and the greater of the two are then the entry and the exit.
pub loop-k-preserved : goal.loop-k-preserved
unfolding ne
loop-k-preserved g c =
    let ss = c.args.slabs.now in
    let l = c.loop-k in
    let less : l.k < length ss = omega (arith, c.loop-k-test.true) in
    elim c.if-s.branch [
      | else-s w ↦
          let entry : w.lesser-entry.result ≡ entry_of _ = w.lesser-entry.ensures ∙ ap (λ x. lesser_of x _) w.number_or-first.ensures ∙ mended_min _ _ in
          let exit : w.greater.result ≡ exit_of _ = w.greater.ensures ∙ ap (λ x. greater_of x _) w.number_or-first.ensures ∙ mended_max _ _ in
          rw (w.tmin-is, w.tmax-is, w.edge-is, w.greater-tmin.ensures, w.lesser-tmax.ensures)
          (elim w.if-entry-tmin.branch [
            | then-entry-tmin v ↦
                rw v.edge-is
                (elim w.if-at_low-entry.branch [
                  | then-at_low-entry u ↦
                      next_raised ss l.k _ l.tmin l.tmax l.edge less l.invariant _ _ (ap not w.if-s.false) entry exit true u.if-at_low-entry.true (u.side-is ∙ u.low-side.ensures) v.if-entry-tmin.true
                  | else-at_low-entry u ↦
                      next_raised ss l.k _ l.tmin l.tmax l.edge less l.invariant _ _ (ap not w.if-s.false) entry exit false u.if-at_low-entry.false (u.side-is ∙ u.high-side.ensures) v.if-entry-tmin.true
                ])
            | else-entry-tmin v ↦ rw v.edge-is (next_still ss l.k _ l.tmin l.tmax l.edge less l.invariant _ _ (ap not w.if-s.false) entry exit v.if-entry-tmin.false)
          ])
      | then-s+else-is_outside w ↦
          rw (w.tmin-is, w.tmax-is, w.edge-is) (next_along ss l.k _ l.tmin l.tmax l.edge less l.invariant (ap not w.if-s.true) (sym w.is_outside.ensures ∙ w.if-is_outside.false))
    ]

pub returns-then-is_outside : goal.returns-then-is_outside
unfolding ne
returns-then-is_outside g c =
    let ss = c.args.slabs.now in
    let l = c.loop-k in
    let miss = next_beside ss l.k _ l.tmin l.tmax l.edge (omega (arith, c.loop-k-test.true)) l.invariant (ap not c.if-s.true) (sym c.is_outside.ensures ∙ c.if-is_outside.true) in
    record { answers = told_miss ss miss; means = (line_answer ss Miss (sym miss), tt); laws = answer_laws }

pub returns-then-tmax-tmin : goal.returns-then-tmax-tmin
returns-then-tmax-tmin g c =
    let ss = c.args.slabs.now in
    let l = c.loop-k in
    let hit = last_hit ss l.k l.tmin l.tmax l.edge (omega (arith, c.loop-k-test.false)) l.invariant c.if-tmax-tmin.true in
    record { answers = hit.0; means = (line_answer ss (Hit l.tmin l.tmax) hit.1, hit.2); laws = answer_laws }

pub returns-else-tmax-tmin : goal.returns-else-tmax-tmin
returns-else-tmax-tmin g c =
    let ss = c.args.slabs.now in
    let l = c.loop-k in
    let miss = last_miss ss l.k l.tmin l.tmax l.edge (omega (arith, c.loop-k-test.false)) l.invariant c.if-tmax-tmin.false in
    record { answers = told_miss ss miss; means = (line_answer ss Miss (sym miss), tt); laws = answer_laws }
