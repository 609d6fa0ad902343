use Rattle.std.proofs.Common.{◌≡◌, ◌*◌, ◌++◌, drop}
use Rattle.tiles.specs.Tiles.{rows}
use Rattle.tiles.proofs.write_rows.Given as goal

-- the first i rows are written
abbrev pub invariant-loop-i : goal.invariant-loop-i
invariant-loop-i l = l.out ≡ rows l.sheet.width l.columns.first l.columns.count l.rows.first l.i ++ drop (l.i * l.columns.count) l.fn.out
