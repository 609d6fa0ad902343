-- How often a walk is on a side of the image: no more often than the side is long. Along an axis with steps of 1 or -1 no two positions share a
-- whole part: upwards a rounded step goes past the next whole number, and downwards it is exact.
use mathlib.Core.Path.{◌≡◌, refl, sym, ap, subst}
use mathlib.Core.Bool.{Bool, true, false}
use mathlib.Core.Logic.{◌⊎◌, inl, inr}
use Prim.Native.Nat.{ℕ, zero, suc, ◌+◌, ◌≤◌}
use native.Mathlib.Omega.{arith}
use lib.Dec.{T}
use lib.Ieee.{Float, binary32, lt, le, fits}
use lib.Ieee.Fits.{add-fits}
use lib.Ieee.Exact.{HasValue}
use Rattle.float.specs.Rounded.{◌⊕◌, +0}
use Rattle.rounded.specs.Size.{Size}
use Rattle.rounded.proofs.Sizes.{size_wider}
use Rattle.rounded.proofs.Step.{base, Past, past_less, unit}
use Rattle.rounded.proofs.Down.{both, Left, back_on, back_off, between, on_side}
use Rattle.stroke.specs.declared.axis.Axis.{Axis}
use Rattle.stroke.specs.Walk.{at, most_steps}
use Rattle.stroke.specs.Image.{on_side_of, one_if_of}
use Rattle.stroke.specs.Steps.{Sized}
use Rattle.stroke.proofs.Outside.{Major, at_size, past_next}

-- c places of a side of length n lie behind x, in the direction of the steps
abbrev Gone : Bool → ℕ → ℕ → Float → Type 0
Gone false n c x = Past (base + c) x
Gone true n c x = Left n c x

-- a count of places on the side, one at most a step
module _ {a : Axis} (z : Sized a) (f : T (fits binary32 a.start)) (m : Major a) (n : ℕ) (side : Float) (v : HasValue side false n 1)
    (count : ℕ → ℕ) (t : ℕ → Bool) (none : count 0 ≡ 0) (more : (k : ℕ) → count (suc k) ≡ count k + one_if_of (t k))
    (on : (k : ℕ) → t k ≡ true → on_side_of side (at a k) ≡ true) where
  fit : (k : ℕ) → T (fits binary32 (at a k))
  unfolding at
  fit zero = f
  fit (suc k) = add-fits binary32 (at a k) a.slope

  size : (k : ℕ) → k ≤ most_steps → Size 8388608 (at a k)
  size k h = size_wider (65536 + k) 8388608 (at a k) (omega arith) (at_size z k h)

  moved : (s : Bool) (k : ℕ) → a.slope ≡ unit s → at a (suc k) ≡ at a k ⊕ unit s
  unfolding at
  moved s k e = ap (λ (d : Float). at a k ⊕ d) e

  here : (k : ℕ) → t k ≡ true → Past base (at a k) × Left n 0 (at a k)
  unfolding on_side_of
  here k e = let b = both (le +0 (at a k)) (lt (at a k) side) (on k e) in on_side n (at a k) side v b.0 b.1

  first_on : (s : Bool) (k : ℕ) → t k ≡ true → Gone s n 0 (at a k)
  first_on false k e = past_less (base + 0) base (at a k) (omega arith) (here k e).0
  first_on true k e = (here k e).1

  room_on : (s : Bool) (c k : ℕ) → t k ≡ true → Gone s n c (at a k) → suc c ≤ n
  room_on false c k e g = omega (arith, between n c 0 (at a k) g (here k e).1)
  room_on true c k e g = omega (arith, between n 0 c (at a k) (past_less (base + 0) base (at a k) (omega arith) (here k e).0) g)

  next_on : (s : Bool) (c k : ℕ) → a.slope ≡ unit s → k ≤ most_steps → suc c ≤ n → Gone s n c (at a k) → Gone s n (suc c) (at a (suc k))
  next_on false c k e h l g = past_less (base + suc c) (suc (base + c)) (at a (suc k)) (omega arith) (past_next z (false, e) (base + c) k h g)
  next_on true c k e h l g = subst (Left n (suc c)) (sym (moved true k e)) (back_on n c (at a k) (fit k) (size k h) l g)

  next_off : (s : Bool) (c k : ℕ) → a.slope ≡ unit s → k ≤ most_steps → c ≤ n → Gone s n c (at a k) → Gone s n c (at a (suc k))
  next_off false c k e h l g = past_less (base + c) (suc (base + c)) (at a (suc k)) (omega arith) (past_next z (false, e) (base + c) k h g)
  next_off true c k e h l g = subst (Left n c) (sym (moved true k e)) (back_off n c (at a k) (fit k) (size k h) l g)

  -- no more than n, and they lie behind
  record Behind (k c : ℕ) : Type 0 where
    some : c ≤ n
    gone : (c ≡ 0) ⊎ Gone m.0 n c (at a k)

  behind : (k : ℕ) → k ≤ most_steps → Behind k (count k)
  behind zero h = record { some = omega (arith, none); gone = inl none }
  behind (suc k) h = subst (Behind (suc k)) (sym (more k)) (go (t k) refl (behind k (omega arith)))
    where
      c : ℕ
      c = count k

      going : t k ≡ true → (c ≡ 0) ⊎ Gone m.0 n c (at a k) → Gone m.0 n c (at a k)
      going e (inl o) = subst (λ (i : ℕ). Gone m.0 n i (at a k)) (sym o) (first_on m.0 k e)
      going e (inr g) = g

      still : c ≤ n → (c ≡ 0) ⊎ Gone m.0 n c (at a k) → (c ≡ 0) ⊎ Gone m.0 n c (at a (suc k))
      still l (inl o) = inl o
      still l (inr g) = inr (next_off m.0 c k m.1 (omega arith) l g)

      go : (u : Bool) → t k ≡ u → Behind k c → Behind (suc k) (c + one_if_of u)
      go true e b =
          let g = going e b.gone in
          let l = room_on m.0 c k e g in
          let i : suc c ≡ c + 1 = omega arith in
          subst (Behind (suc k)) i (record { some = l; gone = inr (next_on m.0 c k m.1 (omega arith) l g) })
      go false e b =
          let i : c ≡ c + 0 = omega arith in
          subst (Behind (suc k)) i (record { some = b.some; gone = still b.some b.gone })

  pub count_le : (k : ℕ) → k ≤ most_steps → count k ≤ n
  count_le k h = (behind k h).some
