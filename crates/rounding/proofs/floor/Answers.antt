use Rattle.std.proofs.Common.{◌≡◌, ℕ, ◌^◌, ◌<◌, true, pos, sym, ap, ◌∙◌, subst, arith, lit≤}
use Rattle.std.specs.Prelude.{Float}
use Rattle.std.specs.Float.{binary32}
use Rattle.std.specs.Float.Ieee.{le, lt, of_bits, neg, of_int, to_unsigned}
use denote.Floats.{passes}
use Rattle.float.proofs.Casts.{in_float_lem}
use Rattle.rounding.proofs.Sizes.{Under, under, over_zero, wider, part_lt, unsigned, pow2}
use Rattle.rounding.proofs.Whole.{floor_small, floor_large, floor_large_neg, floor_more, floor_same, floor_fraction, floor_minus_one, floor_none}
use Rattle.rounding.proofs.Standard.{floor_rounds}
use Rattle.rounding.proofs.floor.Goals as goal

-- From 2 ^ 23 up an f32 has no fraction, and below it the casts go through whole numbers.
small : {x : Float} → le (pow2 0) x ≡ true → lt x (pow2 23) ≡ true → Under 23 x
small {x} h k = under 23 x (over_zero x h) k

-- the whole part of a number below 2 ^ 23 is below it
cut_lt : {x : Float} (r : ℕ) → r ≡ to_unsigned 32 x → Under 23 x → r < 2 ^ 23
cut_lt r is u = subst (λ (n : ℕ). n < 2 ^ 23) (sym (is ∙ unsigned 32 (lit≤ tt) u)) (part_lt u)

pub whole_part-requires : goal.whole_part-requires
unfolding of_bits
whole_part-requires c = (c.if-x.true, wider (lit≤ tt) (small c.if-x.true c.if-x-2.true))

pub int_to_float-result : goal.int_to_float-result
unfolding of_bits
int_to_float-result c = in_float_lem _ (omega (arith, cut_lt _ c.whole_part.ensures (small c.if-x.true c.if-x-2.true)))

pub whole_part-n-requires : goal.whole_part-n-requires
unfolding of_bits
whole_part-n-requires c = (c.if-a.true, wider (lit≤ tt) (small c.if-a.true c.if-a-2.true))

pub int_to_float-t : goal.int_to_float-t
unfolding of_bits
int_to_float-t c = in_float_lem _ (omega (arith, cut_lt _ c.whole_part-n.ensures (small c.if-a.true c.if-a-2.true)))

pub overflow_add-result : goal.overflow_add-result
unfolding of_bits
overflow_add-result c = omega (arith, cut_lt _ c.whole_part-n.ensures (small c.if-a.true c.if-a-2.true))

pub int_to_float-result-then-t-a : goal.int_to_float-result-then-t-a
unfolding of_bits
int_to_float-result-then-t-a c = in_float_lem _ (omega (arith, cut_lt _ c.whole_part-n.ensures (small c.if-a.true c.if-a-2.true)))

-- what is returned has the value `floor_of` of the argument, so it is what the standard asks for
pub returns-then-x-2 : goal.returns-then-x-2
unfolding of_bits
returns-then-x-2 c =
    floor_rounds c.args.x _ (passes _ c.well_formed.0.1)
    (ap (λ (n : ℕ). of_int binary32 (pos n)) c.whole_part.ensures ∙ floor_small (lit≤ tt) (small c.if-x.true c.if-x-2.true))

pub returns-else-x-2 : goal.returns-else-x-2
unfolding of_bits
returns-else-x-2 c =
    let held = passes _ c.well_formed.0.1 in
    floor_rounds c.args.x _ held (floor_large c.args.x held (over_zero c.args.x c.if-x.true) c.if-x-2.false)

pub returns-then-t-a : goal.returns-then-t-a
unfolding of_bits
returns-then-t-a c =
    floor_rounds c.args.x _ (passes _ c.well_formed.0.1)
    (floor_more c.args.x (small c.if-a.true c.if-a-2.true) c.whole_part-n.result c.whole_part-n.ensures c.if-t-a.true)

pub returns-else-t-a : goal.returns-else-t-a
unfolding of_bits
returns-else-t-a c =
    floor_rounds c.args.x _ (passes _ c.well_formed.0.1)
    (floor_same c.args.x (small c.if-a.true c.if-a-2.true) c.whole_part-n.result c.whole_part-n.ensures c.if-t-a.false)

pub returns-else-a-2 : goal.returns-else-a-2
unfolding of_bits
returns-else-a-2 c =
    let held = passes _ c.well_formed.0.1 in
    floor_rounds c.args.x _ held (floor_large_neg c.args.x held (over_zero (neg c.args.x) c.if-a.true) c.if-a-2.false)

pub returns-then-x-3 : goal.returns-then-x-3
unfolding of_bits
returns-then-x-3 c = floor_rounds c.args.x _ (passes _ c.well_formed.0.1) (floor_fraction c.args.x c.if-x-3.true c.if-x.false)

pub returns-then-x-4 : goal.returns-then-x-4
unfolding of_bits
returns-then-x-4 c = floor_rounds c.args.x _ (passes _ c.well_formed.0.1) (floor_minus_one c.args.x c.if-x-4.true c.if-a.false)

pub returns-else-x-4 : goal.returns-else-x-4
unfolding of_bits
returns-else-x-4 c =
    let held = passes _ c.well_formed.0.1 in
    floor_rounds c.args.x _ held (floor_none c.args.x held c.if-x-3.false c.if-x-4.false)
