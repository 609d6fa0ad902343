use Rattle.std.proofs.Common.{◌≡◌, map, take}
use Rattle.std.proofs.lemmas.List.Edits.{sets}
use Rattle.hatch_encode.specs.Encode.{word_bytes, joined}
use Rattle.hatch_write.proofs.put.put_entries.Given as goal

-- after k turns the bits of the first k are stored
abbrev pub invariant-loop-k : goal.invariant-loop-k
invariant-loop-k g l = l.out ≡ sets l.initial.out l.at (joined word_bytes (take l.k (map g.E.Entry.bits_of l.entries)))
