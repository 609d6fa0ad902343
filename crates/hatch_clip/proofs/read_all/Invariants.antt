use Rattle.std.proofs.Common.{length, take, ◌-◌, ◌≤◌}
use Rattle.std.specs.Io.KnownBytes.{Consumes}
use Rattle.hatch_clip.proofs.read_all.Given as goal

-- what was read lies in the buffer, and what is left of it falls
abbrev pub invariant-loop-n : goal.invariant-loop-n
invariant-loop-n g l = record {
  bound : l.n ≤ length l.buffer;
  bytes : Consumes (g.R.Read.remaining l.fn.from) (g.R.Read.remaining l.from) (take l.n l.buffer);
}

abbrev pub decreases-loop-n : goal.decreases-loop-n
decreases-loop-n g l = length l.buffer - l.n
