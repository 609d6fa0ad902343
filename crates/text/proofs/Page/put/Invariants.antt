use Rattle.std.proofs.Common.{take}
use Rattle.text.specs.Page.{Adds}
use Rattle.text.proofs.Page.put.Given as goal

-- so far the bytes before this one are put
abbrev pub invariant-loop-c : goal.invariant-loop-c
invariant-loop-c l = Adds l.initial.self (take l.c-index l.text) l.self
