-- The length over an interval that spans 0 to 1 is the stroke's own, and over one with nothing between 0 and 1 it is 0.
use mathlib.Core.Path.{◌≡◌, refl}
use mathlib.Core.Bool.{Bool, true, false, cond}
use mathlib.Core.Logic.{inl, inr}
use lib.Ieee.{Float, binary32, lt, le, eq, is_nan, of_bits}
use lib.Ieee.Bits.{of_bits-fits}
use Rattle.types.specs.declared.shape.Vec2.{Vec2}
use Rattle.slabs.specs.declared.Interval.{Interval}
use Rattle.slabs.specs.declared.Interval.TheVariants.{Miss, Hit}
use Rattle.float.specs.Rounded.{+0, one}
use Rattle.float.specs.Values.{min_of, max_of}
use Rattle.float.proofs.MinMax.{minimum_picks, maximum_picks}
use Rattle.float.proofs.Order.{lt_not, lt_itself}
use Rattle.edge2_measure.specs.Measure.{length_of, position_from_ratio_of}
use Rattle.aabb.specs.Clip.{ordered_of}
use Rattle.rounded.proofs.Round.{signed_zero}
use Rattle.rounded.proofs.Signed.{le_not}
use Rattle.stroke_check.proofs.Accepted.{Bounded}
use Rattle.stroke_ink.specs.Ink.{bounded_of, length_over_of}
use Rattle.stroke_ink.proofs.Ends.{Number, AtMost, AtLeast, min_number, max_number, min_most_first, max_most, max_least_first, min_least, is_zero, is_one}
use Rattle.stroke_ink.proofs.Narrowed.{Spans, Outside}
use Rattle.stroke_ink.proofs.Positions.{at_first, at_second, length_near, length_none}

-- ---- 0 and 1

pub zero_held : Number +0
zero_held = record { fit = of_bits-fits binary32 0; number = unfold is_nan of_bits in refl }

pub one_held : Number one
one_held = record { fit = of_bits-fits binary32 0x3f80_0000; number = unfold is_nan of_bits in refl }

zero_most : AtMost +0 +0
zero_most = record { held = zero_held; not_past = lt_itself +0 }

one_least : AtLeast one one
one_least = record { held = one_held; not_past = lt_itself one }

-- the lower end of a bounded interval is not below 0, and the upper one not above 1
pub from_zero : (t : Float) → lt (max_of t +0) +0 ≡ false
from_zero t = (maximum_picks.none_before t +0).1

pub to_one : (u : Float) → lt one (min_of u one) ≡ false
to_one u = (minimum_picks.none_before u one).1

-- ---- over an interval that is left, by its two ends

module _ {p q : Vec2} (w : Bounded p q) where
  abbrev over : Float → Float → Float
  over t u = length_of (position_from_ratio_of p q t) (position_from_ratio_of p q u)

  zero_to_zero : (t u : Float) → AtMost +0 t → lt t +0 ≡ false → AtMost +0 u → lt u +0 ≡ false → over t u ≡ +0
  zero_to_zero t u h i j k =
      let y = is_zero t h i in
      let z = is_zero u j k in
      rw (y.1, z.1) (length_none (at_first w y.0) (at_first w z.0))

  one_to_one : (t u : Float) → AtLeast one t → lt one t ≡ false → AtLeast one u → lt one u ≡ false → over t u ≡ +0
  one_to_one t u h i j k = rw (is_one t h i, is_one u j k) (length_none (at_second w) (at_second w))

  zero_to_one : (t u : Float) → AtMost +0 t → lt t +0 ≡ false → AtLeast one u → lt one u ≡ false → (le t u ≡ true) × (over t u ≡ length_of p q)
  zero_to_one t u h i j k =
      let y = is_zero t h i in
      rw (y.1, is_one u j k) (in_order y.0, length_near (at_first w y.0) (at_second w))
    where
      in_order : (s : Bool) → le (signed_zero s) one ≡ true
      in_order true = unfold le lt eq of_bits in refl
      in_order false = unfold le lt eq of_bits in refl

  -- ---- over any interval

  pub spans_length : (i : Interval) → Spans i → length_over_of p q (bounded_of i) ≡ length_of p q
  unfolding bounded_of ordered_of length_over_of
  spans_length Miss h = absurd h
  spans_length (Hit t u) h =
      let z = zero_to_one (max_of t +0) (min_of u one) (max_most h.0 zero_most) (from_zero t) (min_least h.1 one_least) (to_one u) in
      rw z.0 z.1

  pub outside_none : (i : Interval) → Outside i → length_over_of p q (bounded_of i) ≡ +0
  unfolding bounded_of ordered_of length_over_of
  outside_none Miss o = refl
  outside_none (Hit t u) o = go (le (max_of t +0) (min_of u one)) refl o
    where
      t' : Float
      t' = max_of t +0

      u' : Float
      u' = min_of u one

      go : (v : Bool) → le t' u' ≡ v → Outside (Hit t u) → length_over_of p q (cond v (Hit t' u') Miss) ≡ +0
      go false e o = refl
      go true e (inl o) =
          let h = max_least_first +0 o.0 zero_held.fit in
          let n = min_number u one o.1 one_held.fit in
          let back = le_not t' u' (rw e tt) in
          one_to_one t' u' h (lt_not one u' t' n.number (to_one u) back)
          (record { held = n; not_past = lt_not u' t' one h.held.number back h.not_past }) (to_one u)
      go true e (inr o) =
          let h = min_most_first one o.1 one_held.fit in
          let n = max_number t +0 o.0 zero_held.fit in
          let back = le_not t' u' (rw e tt) in
          zero_to_zero t' u' (record { held = n; not_past = lt_not +0 u' t' h.held.number h.not_past back }) (from_zero t)
          h (lt_not u' t' +0 n.number back (from_zero t))
