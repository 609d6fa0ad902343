use Rattle.std.proofs.Common.{◌*◌, ◌^◌, rules}
use Rattle.root.specs.Steps.{Rounds}
use Rattle.root_guess.proofs.Confirmed.{confirmed, root_of_normal}
use Rattle.root_guess.proofs.root_bits.Goals as goal

-- a guess that both tests pass is the rounded root
pub returns : goal.returns
returns c =
    let p = c.in_ok-parts.parts in
    let normal = c.in_ok-parts.ensures in
    let n = c.number.ensures in
    let rounds : Rounds (c.number.result * 2 ^ 23) c.in_ok-root.root = confirmed c.number.result c.in_ok-root.root n.range.0 n.range.1 (search rules) (search rules) in
    rw c.base.ensures (root_of_normal c.args.bits p.significand p.exponent c.number.result c.in_ok-root.root normal.normal.0 normal.normal.1 normal.parts n.answers rounds)
