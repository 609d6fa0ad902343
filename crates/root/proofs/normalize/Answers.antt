use Rattle.root.proofs.Shift.{shifted}
use Rattle.root.proofs.normalize.Goals as goal

pub invariant_of-result : goal.invariant_of-result
invariant_of-result c =
    let s = shifted c.args.fraction c.requires.0 c.requires.1 in
    record { low = s.low; high = s.high; least = s.least; most = s.most }

pub returns : goal.returns
returns c = shifted c.args.fraction c.requires.0 c.requires.1
