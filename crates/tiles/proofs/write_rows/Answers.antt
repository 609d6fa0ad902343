use Rattle.tiles.proofs.Lists.{rows_more}
use Rattle.tiles.proofs.write_rows.Goals as goal

pub loop-i-preserved : goal.loop-i-preserved
loop-i-preserved c = rows_more _ _ _ _ _ _ _ _ _ c.loop-i-test.true c.requires.room c.loop-i.invariant c.write_run.ensures
