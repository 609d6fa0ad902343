use Rattle.std.proofs.Common.{◌≡◌, ◌%◌, refl, sym, ◌∙◌, length}
use borrow.Author.Tests.{eqb-true}
use Rattle.lists.specs.Lent.{leaves}
use Rattle.aabb_lines.proofs.Answer.{part_of_a_line, short, enough, all_written}
use Rattle.aabb_lines.proofs.intersections_against_lines.Goals as goal
use Rattle.aabb_lines.proofs.intersections_against_lines.Goals.{Else-not-is_empty}

whole : (c : Else-not-is_empty) → length c.args.lines.now % 4 ≡ 0
whole c = sym c.as_chunks.ensures.back_len ∙ eqb-true _ 0 (sym c.is_empty.ensures ∙ c.if-not-is_empty.false)

pub returns-then-not-is_empty : goal.returns-then-not-is_empty
unfolding leaves
returns-then-not-is_empty c = record {
  answers = part_of_a_line _ _ _ _ c.as_chunks.ensures.back_len (sym c.is_empty.ensures ∙ c.if-not-is_empty.true);
  leaves = refl;
}

pub returns-then-out-entries : goal.returns-then-out-entries
unfolding leaves
returns-then-out-entries c =
    let w = whole (goal.at.returns-then-out-entries c).Else-not-is_empty in
    record { answers = short _ _ w c.as_chunks.ensures.front_len _ c.if-out-entries.true; leaves = refl }

pub returns : goal.returns
returns c =
    let a = c.args in
    let w = whole (goal.at.returns c).Else-not-is_empty in
    let k = c.as_chunks.ensures in
    record {
      answers = enough a.b a.lines.now w k.front_len _ c.if-out-entries.false;
      leaves = c.write_results.ensures ∙ all_written a.b a.lines.now w k.front_len _ a.out.now k.front;
    }
