use Rattle.std.proofs.Common.{◌≡◌, ◌++◌, map, take, drop}
use Rattle.hatch_read.proofs.put_record.Given as goal

-- the first j entries are written
abbrev pub invariant-loop-j : goal.invariant-loop-j
invariant-loop-j g l = l.out ≡ map g.E.Entry.of_bits (take l.j l.bits) ++ drop l.j l.fn.out
