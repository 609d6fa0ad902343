use Rattle.std.proofs.Common.{◌≡◌, ◌++◌, drop}
use Rattle.tiles.specs.Tiles.{run}
use Rattle.tiles.proofs.write_run.Given as goal

-- the first j numbers of the run are written
abbrev pub invariant-loop-j : goal.invariant-loop-j
invariant-loop-j l = l.out ≡ run l.first l.j ++ drop l.j l.fn.out
