use Rattle.text.proofs.Laws.{more}
use Rattle.text.proofs.Page.put.Goals as goal

pub loop-c-preserved : goal.loop-c-preserved
loop-c-preserved c = more c.args.text.now c.loop-c.c-index c.loop-c-test.true c.loop-c.invariant c.put_byte.ensures
