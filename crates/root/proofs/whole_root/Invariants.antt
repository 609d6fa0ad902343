-- `bit` is 2 ^ i, `digits` counts the digits from 2 ^ 23 down to the one above it, `root` has the digits of the root of n * 2 ^ 23 above that
-- weight, and rest * bit, which is not 0, is what the square of `root` leaves. The measure is `bit`.
use Rattle.std.proofs.Common.{◌≡◌, ℕ, ◌+◌, ◌*◌, ◌^◌}
use Rattle.root.proofs.Turn.{Open}
use Rattle.root.proofs.whole_root.Given as goal

abbrev pub invariant-loop-rest : goal.invariant-loop-rest
invariant-loop-rest l = (i : ℕ) × (l.bit ≡ 2 ^ i) × (l.digits + i ≡ 23) × Open (l.n * 2 ^ 23) l.root l.rest l.bit

abbrev pub decreases-loop-rest : goal.decreases-loop-rest
decreases-loop-rest l = l.bit
