-- A coordinate only grows or only falls: a rounded sum keeps the order of its terms, and a zero added changes nothing.
use Rattle.std.proofs.Common.{◌≡◌, ℕ, zero, suc, ◌+◌, ◌≤◌, true, false, T, sym, subst, arith}
use lib.Ieee.{Float, binary32, sub, neg, lt, fits, of_bits, is_nan}
use lib.Ieee.Fits.{add-fits}
use lib.Dec.{lit≤}
use denote.Floats.{passes}
use Rattle.float.specs.Rounded.{◌⊕◌, +0}
use Rattle.float.proofs.Negated.{neg_neg}
use Rattle.float.proofs.Order.{lt_itself, lt_not}
use Rattle.rounded.specs.Size.{Size}
use Rattle.rounded.proofs.Sizes.{size_wider, add_size}
use Rattle.rounded.proofs.Numbers.{sized_number}
use Rattle.rounded.proofs.Signed.{eq_not}
use Rattle.rounded.proofs.Exact.{add_turned, plus_zero}
use Rattle.rounded.proofs.Order.{sub_order}
use Rattle.stroke.specs.declared.axis.Axis.{Axis}
use Rattle.stroke.specs.Walk.{at, most_steps}
use Rattle.stroke.specs.Steps.{Sized}
use Rattle.stroke.proofs.Outside.{at_size}

-- ---- one step

add_order : (x y z : Float) → lt y x ≡ false → lt (y ⊕ z) (x ⊕ z) ≡ false
unfolding sub
add_order x y z h = subst (λ (w : Float). lt (y ⊕ w) (x ⊕ w) ≡ false) (sym (neg_neg z)) (sub_order x y (neg z) h)

turned_order : (x y z : Float) → lt y x ≡ false → lt (z ⊕ y) (z ⊕ x) ≡ false
turned_order x y z h = rw (add_turned z y, add_turned z x) (add_order x y z h)

module _ (x : Float) (f : T (fits binary32 x)) (h : Size 8388607 x) where
  level : (lt (x ⊕ +0) x ≡ false) × (lt x (x ⊕ +0) ≡ false)
  unfolding of_bits
  level = eq_not (x ⊕ +0) x (passes _ (plus_zero x false f (size_wider 8388607 8388608 x (lit≤ tt) h)))

  sum_number : is_nan (x ⊕ +0) ≡ false
  unfolding of_bits
  sum_number = sized_number 8388608 (x ⊕ +0) (add_size 8388607 1 x +0 h (lit≤ tt) (lit≤ tt))

  grows : (s : Float) → lt s +0 ≡ false → lt (x ⊕ s) x ≡ false
  grows s k = lt_not (x ⊕ s) (x ⊕ +0) x sum_number (turned_order +0 s x k) level.0

  falls : (s : Float) → lt +0 s ≡ false → lt x (x ⊕ s) ≡ false
  falls s k = lt_not x (x ⊕ +0) (x ⊕ s) sum_number level.1 (turned_order s +0 x k)

-- ---- all steps

module _ {a : Axis} (z : Sized a) (f : fits binary32 a.start ≡ true) where
  fit : (k : ℕ) → T (fits binary32 (at a k))
  unfolding at
  fit zero = passes _ f
  fit (suc k) = add-fits binary32 (at a k) a.slope

  size : (k : ℕ) → k ≤ most_steps → Size 8388607 (at a k)
  size k h = size_wider (65536 + k) 8388607 (at a k) (omega arith) (at_size z k h)

  pub at_number : (k : ℕ) → k ≤ most_steps → is_nan (at a k) ≡ false
  at_number k h = sized_number 8388607 (at a k) (size k h)

  pub growing : lt a.slope +0 ≡ false → (k : ℕ) → suc k ≤ most_steps → lt (at a (suc k)) (at a k) ≡ false
  unfolding at
  growing s k h = grows (at a k) (fit k) (size k (omega arith)) a.slope s

  pub falling : lt +0 a.slope ≡ false → (k : ℕ) → suc k ≤ most_steps → lt (at a k) (at a (suc k)) ≡ false
  unfolding at
  falling s k h = falls (at a k) (fit k) (size k (omega arith)) a.slope s

  pub grown : lt a.slope +0 ≡ false → (k d : ℕ) → k + d ≤ most_steps → lt (at a (k + d)) (at a k) ≡ false
  grown s k zero h = let e : k + 0 ≡ k = omega arith in rw e (lt_itself (at a k))
  grown s k (suc d) h =
      let e : k + suc d ≡ suc (k + d) = omega arith in
      rw e (lt_not (at a (suc (k + d))) (at a (k + d)) (at a k) (at_number (k + d) (omega arith)) (growing s (k + d) (omega arith)) (grown s k d (omega arith)))

  pub fallen : lt +0 a.slope ≡ false → (k d : ℕ) → k + d ≤ most_steps → lt (at a k) (at a (k + d)) ≡ false
  fallen s k zero h = let e : k + 0 ≡ k = omega arith in rw e (lt_itself (at a k))
  fallen s k (suc d) h =
      let e : k + suc d ≡ suc (k + d) = omega arith in
      rw e (lt_not (at a k) (at a (k + d)) (at a (suc (k + d))) (at_number (k + d) (omega arith)) (fallen s k d (omega arith)) (falling s (k + d) (omega arith)))
