use Rattle.root.proofs.Rounding.{up, down}
use Rattle.root.proofs.Worked.{worked_up}
use Rattle.root.proofs.rounded_root.Goals as goal

pub returns-then-w : goal.returns-then-w
returns-then-w c =
    let w = c.whole_root-w.ensures in
    (up c.args.n c.requires.0 c.requires.1 w.0 c.if-w.true, worked_up c.if-w.true w.0 w.1)

pub returns-else-w : goal.returns-else-w
returns-else-w c =
    let w = c.whole_root-w.ensures in
    (down c.args.n c.requires.0 c.requires.1 w.0 c.if-w.false, w.1)
