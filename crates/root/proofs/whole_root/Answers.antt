use Rattle.std.proofs.Common.{◌*◌, ◌/◌, ◌^◌, refl, arith}
use Rattle.root.proofs.Turn.{Chosen, digit_one, digit_zero, next_weight, next_open}
use Rattle.root.proofs.Turn.{last_digit_lem, nothing_left, weight_positive, weight_bound, root_bound, rest_bound}
use Rattle.root.proofs.Worked.{exact_worked, inexact_worked}
use Rattle.root.proofs.whole_root.Goals as goal
use Rattle.root.proofs.whole_root.Goals.{Joined-cost-rest, then-cost-rest, else-cost-rest}

-- after a digit is chosen
chosen : (c : Joined-cost-rest) → Chosen (c.args.n * 2 ^ 23) c.if-cost-rest.root c.if-cost-rest.rest c.loop-rest.bit
chosen c =
    let v = c.loop-rest.invariant in
    elim c.if-cost-rest.branch [
      | then-cost-rest w ↦ rw (w.root-is, w.rest-is) (digit_one v.3 w.if-cost-rest.true)
      | else-cost-rest w ↦ rw (w.root-is, w.rest-is) (digit_zero v.3 (weight_positive v.0 v.1) w.if-cost-rest.false)
    ]

pub loop-rest-init : goal.loop-rest-init
loop-rest-init c = (23, refl, refl, record { sum = omega arith; bound = omega arith; left = omega arith; found = 0; made = refl })

pub overflow_add-rest : goal.overflow_add-rest
overflow_add-rest c =
    let v = c.loop-rest.invariant in
    let digit = chosen (goal.at.overflow_add-rest c).Joined-cost-rest in
    let small = root_bound c.args.n c.if-cost-rest.root (c.if-cost-rest.rest * c.loop-rest.bit) c.requires.1 digit.sum in
    omega (arith, small, rest_bound digit, weight_bound v.0 v.1 (omega (arith, v.2)))

pub loop-rest-preserved : goal.loop-rest-preserved
loop-rest-preserved c =
    let v = c.loop-rest.invariant in
    let digit = chosen (goal.at.loop-rest-preserved c).Joined-cost-rest in
    let next = next_weight v.0 v.1 c.if-is_last.false in
    let onward = next_open (c.loop-rest.bit / 2) next.3 c.if-is_exact.false digit in
    (next.0, next.1, omega (arith, v.2, next.2), onward)

pub returns-then-is_exact : goal.returns-then-is_exact
returns-then-is_exact c =
    let v = c.loop-rest.invariant in
    let digit = chosen (goal.at.returns-then-is_exact c).Joined-cost-rest in
    let none = c.if-is_exact.true in
    let root = nothing_left none digit in
    (root, exact_worked v.0 _ v.1 v.2 digit (omega arith) (omega arith) none root)

pub returns-then-is_last : goal.returns-then-is_last
returns-then-is_last c =
    let v = c.loop-rest.invariant in
    let digit = chosen (goal.at.returns-then-is_last c).Joined-cost-rest in
    let root = last_digit_lem c.if-is_last.true digit in
    (root, inexact_worked v.0 _ v.1 v.2 digit c.if-is_exact.false c.if-is_last.true root)
