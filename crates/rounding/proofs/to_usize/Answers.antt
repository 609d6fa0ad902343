use Rattle.std.proofs.Common.{sym, ◌∙◌, lit≤}
use Rattle.std.specs.Float.Ieee.{of_bits}
use Rattle.rounding.proofs.Sizes.{under, over_zero, castable, unsigned, unsigned_end, unsigned_none}
use Rattle.rounding.proofs.to_usize.Goals as goal

-- between 1 and 2 ^ 64 the shift or the cast gives the whole part
pub whole_part-requires : goal.whole_part-requires
unfolding of_bits
whole_part-requires c = (c.if-x.true, c.if-x-2.true)

pub truncating_f32_to_u64-requires-clause-lower_bound : goal.truncating_f32_to_u64-requires-clause-lower_bound
unfolding of_bits
truncating_f32_to_u64-requires-clause-lower_bound c =
    (castable (lit≤ tt) (under 64 c.args.x (over_zero c.args.x c.if-x.true) c.if-x-3.true)).0

pub truncating_f32_to_u64-requires-clause-upper_bound : goal.truncating_f32_to_u64-requires-clause-upper_bound
unfolding of_bits
truncating_f32_to_u64-requires-clause-upper_bound c =
    (castable (lit≤ tt) (under 64 c.args.x (over_zero c.args.x c.if-x.true) c.if-x-3.true)).1

pub returns-then-x-2 : goal.returns-then-x-2
unfolding of_bits
returns-then-x-2 c =
    let u = under 24 c.args.x (over_zero c.args.x c.if-x.true) c.if-x-2.true in
    c.whole_part.ensures ∙ unsigned 32 (lit≤ tt) u ∙ sym (unsigned 64 (lit≤ tt) u)

pub returns-else-x-3 : goal.returns-else-x-3
unfolding of_bits
returns-else-x-3 c = unsigned_end 64 c.args.x (over_zero c.args.x c.if-x.true) c.if-x-3.false

pub returns-else-x : goal.returns-else-x
unfolding of_bits
returns-else-x c = unsigned_none 64 c.args.x c.if-x.false
