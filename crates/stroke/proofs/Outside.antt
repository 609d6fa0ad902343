-- A walk with steps of 1 or -1 on one of its axes is outside its ranges after 131,074 steps: that coordinate has passed 65,537, and no range
-- goes further.
use mathlib.Core.Path.{◌≡◌, refl, sym, ◌∙◌, subst}
use mathlib.Core.Bool.{Bool, true, false, ◌&&◌}
use mathlib.Core.Logic.{◌⊎◌, inl, inr}
use Prim.Native.Nat.{ℕ, zero, suc, ◌+◌, ◌≤◌, ◌<◌}
use native.Mathlib.Omega.{arith}
use borrow.Author.Tests.{not-true}
use lib.Ieee.{Float, neg, lt}
use Rattle.float.specs.Rounded.{◌⊕◌}
use Rattle.float.proofs.Negated.{neg_lt}
use Rattle.float.proofs.Tests.{neither}
use Rattle.rounded.specs.Size.{Size}
use Rattle.rounded.proofs.Sizes.{size_wider, neg_size, add_size}
use Rattle.rounded.proofs.Step.{Past, Under, unit, directed, under_of_size, past_of_size, step, past_under, under_not}
use Rattle.stroke.specs.declared.axis.Axis.{Axis}
use Rattle.stroke.specs.Walk.{at, within, in_ranges_of, goes_on, most_steps}
use Rattle.stroke.specs.Steps.{Sized}

-- ---- sizes

-- each step adds at most one
pub at_size : {a : Axis} → Sized a → (k : ℕ) → k ≤ most_steps → Size (65536 + k) (at a k)
unfolding at
at_size s zero h = s.start_size
at_size {a} s (suc k) h =
    let e : 65536 + k + 1 ≡ 65536 + suc k = omega arith in
    subst (λ (j : ℕ). Size j (at a (suc k))) e (add_size (65536 + k) 1 (at a k) a.slope (at_size s k (omega arith)) s.slope_size (omega arith))

pub directed_size : (s : Bool) (k : ℕ) (x : Float) → Size k x → Size k (directed s x)
directed_size false k x h = h
directed_size true k x h = neg_size k x h

-- ---- how far steps of one have gone

-- the axis takes steps of 1 or -1
abbrev pub Major : Axis → Type 0
Major a = (s : Bool) × (a.slope ≡ unit s)

-- one step more
pub past_next : {a : Axis} → Sized a → (m : Major a) (j k : ℕ) → k ≤ most_steps → Past j (directed m.0 (at a k)) → Past (suc j) (directed m.0 (at a (suc k)))
unfolding at
past_next {a} z m j k h p =
    let s = m.0 in
    let u = size_wider (65536 + k) 8388608 (at a k) (omega arith) (at_size z k h) in
    subst (λ (d : Float). Past (suc j) (directed s (at a k ⊕ d))) (sym m.1)
    (step s j (at a k) p (under_of_size 8388608 (directed s (at a k)) (directed_size s 8388608 (at a k) u)))

-- from a start that is at least j
pub past_from : {a : Axis} → Sized a → (m : Major a) (j : ℕ) → Past j (directed m.0 a.start)
    → (k : ℕ) → k ≤ most_steps → Past (j + k) (directed m.0 (at a k))
past_from {a} z m j p zero h =
    let e : j ≡ j + 0 = omega arith in subst (λ (i : ℕ). Past i (directed m.0 (at a 0))) e (unfold at in p)
past_from {a} z m j p (suc k) h =
    let e : suc (j + k) ≡ j + suc k = omega arith in
    subst (λ (i : ℕ). Past i (directed m.0 (at a (suc k)))) e (past_next z m (j + k) k (omega arith) (past_from z m j p k (omega arith)))

past_at : {a : Axis} → Sized a → (m : Major a) (k : ℕ) → k ≤ most_steps → Past (65536 + k) (directed m.0 (at a k))
past_at {a} z m k h =
    past_from z m 65536 (past_of_size 65536 (directed m.0 a.start) (omega arith) (directed_size m.0 65536 a.start z.start_size)) k h

-- ---- the end of the range in the direction of the steps

abbrev pub reach : Bool → Axis → Float
reach false a = a.high
reach true a = neg a.low

reach_size : {a : Axis} → Sized a → (s : Bool) → Size 65537 (reach s a)
reach_size z false = z.high_size
reach_size {a} z true = neg_size 65537 a.low z.low_size

pub within_reach : (a : Axis) (s : Bool) (x : Float) → within a x ≡ true → lt (reach s a) (directed s x) ≡ false
unfolding within
within_reach a false x w = (neither (lt x a.low) (lt a.high x) (not-true _ w)).1
within_reach a true x w = neg_lt a.low x ∙ (neither (lt x a.low) (lt a.high x) (not-true _ w)).0

-- so within its range it is at most 65,537
within_under : {a : Axis} → Sized a → (s : Bool) (j : ℕ) (x : Float) → Past j (directed s x) → within a x ≡ true → Under 65537 (directed s x)
within_under {a} z s j x p w = under_not j 65537 (directed s x) (reach s a) p (under_of_size 65537 (reach s a) (reach_size z s)) (within_reach a s x w)

few : {a : Axis} → Sized a → Major a → (k : ℕ) → k ≤ most_steps → within a (at a k) ≡ true → k < most_steps
few {a} z m k h w =
    let p = past_at z m k h in
    omega (arith, past_under (65536 + k) 65537 (directed m.0 (at a k)) p (within_under z m.0 (65536 + k) (at a k) p w))

-- ---- so it is outside

pub outside : {a b : Axis} → Sized a → Sized b → Major a ⊎ Major b → goes_on a b most_steps ≡ false
unfolding in_ranges_of
outside {a} {b} y z m = go (within a (at a most_steps)) (within b (at b most_steps)) refl refl m
  where
    go : (u v : Bool) → within a (at a most_steps) ≡ u → within b (at b most_steps) ≡ v → Major a ⊎ Major b → (u && v) ≡ false
    go false v p q m = refl
    go true false p q m = refl
    go true true p q (inl i) = absurd (omega (arith, few y i most_steps (omega arith) p))
    go true true p q (inr i) = absurd (omega (arith, few z i most_steps (omega arith) q))
