-- Each of the three comparisons decides as much as all that it stands for, from a position in the stretch on.
use Rattle.std.proofs.Common.{◌≡◌, ℕ, suc, ◌+◌, ◌-◌, ◌≤◌, Bool, true, false, not, ◌&&◌, ◌||◌, cond, refl, sym, ap, ◌∙◌, subst, arith}
use mathlib.Core.Bool.{true≢false}
use borrow.Author.Tests.{not-true, not-false}
use lib.Ieee.{Float, binary32, lt, le, fits, of_bits, is_nan}
use denote.Floats.{passes}
use Rattle.float.specs.Rounded.{+0}
use Rattle.float.proofs.Laws.{below_number}
use Rattle.float.proofs.Order.{lt_not, lt_one_way}
use Rattle.float.proofs.Tests.{neither}
use Rattle.rounded.proofs.Down.{both}
use Rattle.rounded.proofs.Order.{le_of}
use Rattle.rounded.proofs.Signed.{le_not}
use Rattle.stroke.specs.declared.axis.Axis.{Axis}
use Rattle.stroke.specs.Walk.{at, within, most_steps}
use Rattle.stroke.specs.Image.{on_side_of}
use Rattle.stroke.specs.Steps.{Sized}
use Rattle.pixels.specs.Limit.{at_least, at_most, below, Limits}
use Rattle.pixels.proofs.Moving.{at_number, growing, falling, grown, fallen}

-- y is below z, and so is what is not above y
lower : (x y z : Float) → is_nan x ≡ false → lt y x ≡ false → lt y z ≡ true → lt x z ≡ true
lower x y z n h k = go (lt x z) refl
  where
    go : (t : Bool) → lt x z ≡ t → t ≡ true
    go true e = refl
    go false e = absurd (true≢false (sym k ∙ lt_not y x z n h e))

-- x is below y, and so below what is not below y
higher : (x y z : Float) → is_nan z ≡ false → lt z y ≡ false → lt x y ≡ true → lt x z ≡ true
higher x y z n h k = go (lt x z) refl
  where
    go : (t : Bool) → lt x z ≡ t → t ≡ true
    go true e = refl
    go false e = absurd (true≢false (sym k ∙ lt_not x z y n e h))

-- for numbers, the one comparison is the other's contrary. A NaN passes neither `le`
le_is_not : (x y : Float) → is_nan x ≡ false → is_nan y ≡ false → le x y ≡ not (lt y x)
le_is_not x y n m = go (lt y x) refl
  where
    none : lt y x ≡ true → (u : Bool) → le x y ≡ u → u ≡ false
    none e true g = absurd (true≢false (sym e ∙ le_not x y (passes _ g)))
    none e false g = refl

    go : (t : Bool) → lt y x ≡ t → le x y ≡ not t
    go true e = none e (le x y) refl
    go false e = le_of x y n m e

module _ {a : Axis} (z : Sized a) (f : fits binary32 a.start ≡ true) (side : Float) (n : is_nan side ≡ false) where
  -- what is known at the first position of the stretch
  pub record Within (k : ℕ) : Type 0 where
    pub few : k ≤ most_steps
    pub over_low : lt (at a k) a.low ≡ false
    pub under_high : lt a.high (at a k) ≡ false
    pub over_zero : lt (at a k) +0 ≡ false
    pub under_side : lt (at a k) side ≡ true

  pub within_at : (k : ℕ) → k ≤ most_steps → within a (at a k) ≡ true → on_side_of side (at a k) ≡ true → Within k
  unfolding within on_side_of
  within_at k h w o =
      let r = neither (lt (at a k) a.low) (lt a.high (at a k)) (not-true _ w) in
      let s = both (le +0 (at a k)) (lt (at a k) side) o in
      record { few = h; over_low = r.0; under_high = r.1; over_zero = le_not +0 (at a k) (passes _ s.0); under_side = s.1 }

  zero_number : is_nan +0 ≡ false
  unfolding of_bits is_nan
  zero_number = refl

  -- what is asked at step i, by the four comparisons
  asked : (i : ℕ) → i ≤ most_steps → (low high zero' below' : Bool) → lt (at a i) a.low ≡ low → lt a.high (at a i) ≡ high → lt (at a i) +0 ≡ zero'
      → lt (at a i) side ≡ below' → within a (at a i) && on_side_of side (at a i) ≡ not (low || high) && (not zero' && below')
  unfolding within on_side_of
  asked i h low high zero' below' p q r s = rw (p, q, s, le_is_not +0 (at a i) zero_number (at_number z f i h), r) refl

  -- ---- falling

  module _ (s : lt a.slope +0 ≡ true) (low_number : is_nan a.low ≡ false) (k : ℕ) (w : Within k) where
    down : lt +0 a.slope ≡ false
    down = lt_one_way a.slope +0 s

    abbrev pub bound : Float
    bound = cond (lt a.low +0) +0 a.low

    under : (i : ℕ) → k ≤ i → i ≤ most_steps → lt (at a k) (at a i) ≡ false
    under i l h = let e : k + (i - k) ≡ i = omega arith in subst (λ (j : ℕ). lt (at a k) (at a j) ≡ false) e (fallen z f down k (i - k) (omega arith))

    bound_number : is_nan bound ≡ false
    bound_number = go (lt a.low +0)
      where
        go : (t : Bool) → is_nan (cond t +0 a.low) ≡ false
        go true = zero_number
        go false = low_number

    at_least_is : (i : ℕ) → i ≤ most_steps → at_least bound (at a i) ≡ not (lt (at a i) bound)
    unfolding at_least
    at_least_is i h = le_is_not bound (at a i) bound_number (at_number z f i h)

    falls_test : (i : ℕ) → k ≤ i → i ≤ most_steps → not (lt (at a i) bound) ≡ within a (at a i) && on_side_of side (at a i)
    falls_test i l h = go (lt a.low +0) (lt (at a i) a.low) (lt (at a i) +0) refl refl refl
      where
        x : Float
        x = at a i

        high_is : lt a.high x ≡ false
        high_is = lt_not a.high (at a k) x (at_number z f k w.few) w.under_high (under i l h)

        side_is : lt x side ≡ true
        side_is = lower x (at a k) side (at_number z f i h) (under i l h) w.under_side

        go : (t low zero' : Bool) → lt a.low +0 ≡ t → lt x a.low ≡ low → lt x +0 ≡ zero' → not (lt x (cond t +0 a.low)) ≡ within a x && on_side_of side x
        go true true true p q r = rw r (sym (asked i h true false true true q high_is r side_is))
        go true true false p q r = absurd (true≢false (sym q ∙ lt_not x +0 a.low zero_number r (lt_one_way a.low +0 p)))
        go true false true p q r = rw r (sym (asked i h false false true true q high_is r side_is))
        go true false false p q r = rw r (sym (asked i h false false false true q high_is r side_is))
        go false true zero' p q r = rw q (sym (asked i h true false zero' true q high_is r side_is))
        go false false true p q r = absurd (true≢false (sym r ∙ lt_not x a.low +0 low_number q p))
        go false false false p q r = rw q (sym (asked i h false false false true q high_is r side_is))

    pub falls_limits : Limits (at_least bound) a side k
    falls_limits = record {
      allows_is = λ i l h. at_least_is i h ∙ falls_test i l h;
      stays = λ i l h out.
          let here = not-false _ (sym (at_least_is i (omega arith)) ∙ out) in
          at_least_is (suc i) h ∙ ap not (lower (at a (suc i)) (at a i) bound (at_number z f (suc i) h) (falling z f down i h) here);
    }

  -- ---- growing

  module _ (s : lt a.slope +0 ≡ false) (k : ℕ) (w : Within k) where
    over : (i : ℕ) → k ≤ i → i ≤ most_steps → lt (at a i) (at a k) ≡ false
    over i l h = let e : k + (i - k) ≡ i = omega arith in subst (λ (j : ℕ). lt (at a j) (at a k) ≡ false) e (grown z f s k (i - k) (omega arith))

    low_is : (i : ℕ) → k ≤ i → i ≤ most_steps → lt (at a i) a.low ≡ false
    low_is i l h = lt_not (at a i) (at a k) a.low (at_number z f k w.few) (over i l h) w.over_low

    zero_is : (i : ℕ) → k ≤ i → i ≤ most_steps → lt (at a i) +0 ≡ false
    zero_is i l h = lt_not (at a i) (at a k) +0 (at_number z f k w.few) (over i l h) w.over_zero

    at_most_is : lt a.high side ≡ true → (i : ℕ) → i ≤ most_steps → at_most a.high (at a i) ≡ not (lt a.high (at a i))
    unfolding at_most
    at_most_is t i h = le_is_not (at a i) a.high (at_number z f i h) (below_number a.high side t)

    pub grows_limits : lt a.high side ≡ true → Limits (at_most a.high) a side k
    grows_limits t = record {
      allows_is = λ i l h. at_most_is t i h ∙ go i l h (lt a.high (at a i)) (lt (at a i) side) refl refl;
      stays = λ i l h out.
          let here = not-false _ (sym (at_most_is t i (omega arith)) ∙ out) in
          at_most_is t (suc i) h ∙ ap not (higher a.high (at a i) (at a (suc i)) (at_number z f (suc i) h) (growing z f s i h) here);
    }
      where
        go : (i : ℕ) → k ≤ i → i ≤ most_steps → (high below' : Bool) → lt a.high (at a i) ≡ high → lt (at a i) side ≡ below'
            → not (lt a.high (at a i)) ≡ within a (at a i) && on_side_of side (at a i)
        go i l h true true p q = rw p (sym (asked i h false true false true (low_is i l h) p (zero_is i l h) q))
        go i l h true false p q = rw p (sym (asked i h false true false false (low_is i l h) p (zero_is i l h) q))
        go i l h false true p q = rw p (sym (asked i h false false false true (low_is i l h) p (zero_is i l h) q))
        go i l h false false p q = absurd (true≢false (sym t ∙ lt_not a.high (at a i) side (at_number z f i h) p q))

    pub side_limits : lt a.high side ≡ false → Limits (below side) a side k
    unfolding below
    side_limits t = record {
      allows_is = λ i l h. go i l h (lt a.high (at a i)) (lt (at a i) side) refl refl;
      stays = λ i l h out. lt_not (at a (suc i)) (at a i) side (at_number z f i (omega arith)) (growing z f s i h) out;
    }
      where
        go : (i : ℕ) → k ≤ i → i ≤ most_steps → (high below' : Bool) → lt a.high (at a i) ≡ high → lt (at a i) side ≡ below'
            → lt (at a i) side ≡ within a (at a i) && on_side_of side (at a i)
        go i l h true true p q = absurd (true≢false (sym p ∙ lt_not a.high side (at a i) n t (lt_one_way (at a i) side q)))
        go i l h true false p q = rw q (sym (asked i h false true false false (low_is i l h) p (zero_is i l h) q))
        go i l h false true p q = rw q (sym (asked i h false false false true (low_is i l h) p (zero_is i l h) q))
        go i l h false false p q = rw q (sym (asked i h false false false false (low_is i l h) p (zero_is i l h) q))
