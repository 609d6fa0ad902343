use Rattle.std.proofs.Common.{◌≡◌, false, List, ℕ, sym, ap, subst, ◌∙◌, arith}
use Rattle.std.proofs.lemmas.Result.{err_from_is_err_and}
use Rattle.std.specs.Prelude.{Result}
use Rattle.types.specs.declared.refusal.Refusal.{Refusal}
use Rattle.tiles.specs.Sheet.{Sheet}
use Rattle.tiles.specs.Answer.{sheet, bad_sheet_of}
use Rattle.tiles.specs.Promise.{TilesPromise}
use Rattle.tiles.proofs.Accepted.{corners}
use Rattle.tiles.proofs.Promised.{Floats, refused_sheet, refused_box}
use Rattle.tiles.proofs.Found.{Found, count_le, too_short, filled, empty}
use Rattle.tiles.proofs.overlapping_tiles.Goals as goal
use Rattle.tiles.proofs.overlapping_tiles.Goals.{Start, In_ok-sheet, Else-bad_box, After-places-rows}

floats : (c : Start) → Floats c.args.b
floats c = let g = c.well_formed.0.1.1 in record { min_x = g.0.1; min_y = g.1.0.1; max_x = g.1.1.0.1; max_y = g.1.1.1.0.1 }

-- ---- what is known once the sheet is made, and once the columns and the rows are worked out

sheet_good : (c : In_ok-sheet) → let made = c.in_ok-sheet.sheet in bad_sheet_of (sheet made.size made.width made.height) ≡ false
sheet_good c = ap bad_sheet_of c.in_ok-sheet.ensures.1 ∙ c.in_ok-sheet.ensures.0

-- the sheet that is made is that of the arguments
promised :
    (c : In_ok-sheet) (r : Result ℕ Refusal) (l : List ℕ) →
    let made = c.in_ok-sheet.sheet in
    TilesPromise (sheet made.size made.width made.height) c.args.b c.args.out.now r l
    → TilesPromise (sheet c.args.size c.args.shape_width c.args.shape_height) c.args.b c.args.out.now r l
promised c r l = subst (λ (s : Sheet). TilesPromise s c.args.b c.args.out.now r l) c.in_ok-sheet.ensures.1

found :
    (c : After-places-rows) →
    let made = c.in_ok-sheet.sheet in
    let columns = c.places-columns.result in
    let rows = c.places-rows.result in
    Found (sheet made.size made.width made.height) c.args.b columns.first columns.count rows.first rows.count
found c = record {
  sheet_good = ap bad_sheet_of c.in_ok-sheet.ensures.1 ∙ c.in_ok-sheet.ensures.0;
  box_good = sym c.bad_box.ensures ∙ c.if-bad_box.false;
  c_is = rw (c.x_range.ensures) at c.places-columns.ensures.0;
  k_is = rw (c.x_range.ensures) at c.places-columns.ensures.1;
  r_is = rw (c.y_range.ensures) at c.places-rows.ensures.0;
  n_is = rw (c.y_range.ensures) at c.places-rows.ensures.1;
}

-- ---- the goals

-- a sheet that is refused is refused as it is made
pub returns-in_err-sheet : goal.returns-in_err-sheet
returns-in_err-sheet c =
    let told = err_from_is_err_and c.from_residual.result c.from_residual.ensures.1 in
    let refused = c.in_err-sheet.ensures in
    rw (told.1, told.2, refused.1) (refused_sheet _ c.args.b c.args.out.now refused.0)

pub returns-then-bad_box : goal.returns-then-bad_box
returns-then-bad_box c =
    let at = goal.at.returns-then-bad_box c in
    promised at.In_ok-sheet _ _ (refused_box _ c.args.b c.args.out.now (sheet_good at.In_ok-sheet) (sym c.bad_box.ensures ∙ c.if-bad_box.true))

-- what `places` asks of the two axes
pub places-columns-requires : goal.places-columns-requires
places-columns-requires c = let k = corners c.args.b (sym c.bad_box.ensures ∙ c.if-bad_box.false) in rw (c.x_range.ensures) (k.min_x, k.max_x)

pub places-rows-requires : goal.places-rows-requires
places-rows-requires c = let k = corners c.args.b (sym c.bad_box.ensures ∙ c.if-bad_box.false) in rw (c.y_range.ensures) (k.min_y, k.max_y)

pub overflow_mul-count : goal.overflow_mul-count
overflow_mul-count c = omega (arith, count_le (found (goal.at.overflow_mul-count c).After-places-rows))

pub returns-then-is_short : goal.returns-then-is_short
returns-then-is_short c =
    let at = goal.at.returns-then-is_short c in
    promised at.In_ok-sheet _ _ (too_short (found at.After-places-rows) c.args.out.now c.if-is_short.true)

pub returns-then-is_empty : goal.returns-then-is_empty
returns-then-is_empty c =
    let at = goal.at.returns-then-is_empty c in
    promised at.In_ok-sheet _ _ (empty (found at.After-places-rows) c.args.out.now (floats at.Start) c.if-is_empty.true)

pub returns : goal.returns
returns c =
    let at = goal.at.returns c in
    promised at.In_ok-sheet _ _
    (filled (found at.After-places-rows) c.args.out.now c.write_rows.new.out (floats at.Start) c.if-is_short.false c.write_rows.ensures)
