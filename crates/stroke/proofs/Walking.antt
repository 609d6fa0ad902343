-- The walk to where it leaves its ranges, turn by turn.
use mathlib.Core.Path.{◌≡◌, refl, sym, ap, ◌∙◌}
use mathlib.Core.Bool.{true, false}
use Prim.Native.Nat.{ℕ, suc, ◌+◌, ◌-◌, ◌≤◌, ◌<◌}
use native.Mathlib.Numerals.{add-one}
use native.Mathlib.Omega.{arith}
use Rattle.types.specs.declared.shape.Vec2.{Vec2}
use Rattle.stroke.specs.declared.axis.Axis.{Axis}
use Rattle.stroke.specs.Walk.{at, position, in_ranges_of, goes_on, first_outside, most_steps, exit}
use Rattle.stroke.specs.Steps.{first, next}
use Rattle.stroke.proofs.Stops.{found, found_here, found_later, found_from}

-- the first position, and the one after position k
pub first_is : (a b : Axis) (p : Vec2) → p ≡ first a b → p ≡ position a b 0
unfolding at
first_is a b p e = e

pub next_is : (a b : Axis) (p q : Vec2) (k : ℕ) → p ≡ position a b k → q ≡ next a b p → q ≡ position a b (k + 1)
unfolding at
next_is a b p q k e f = f ∙ ap (next a b) e ∙ ap (position a b) (sym (add-one k))

-- p is position k, and the exit is the first outside from there on
pub record Walking (a b : Axis) (p : Vec2) (k : ℕ) : Type 0 where
  pub position_is : p ≡ position a b k
  pub exit_is : exit a b ≡ found a b (most_steps - k) k

pub walking_none : (a b : Axis) (p : Vec2) → p ≡ first a b → Walking a b p 0
unfolding exit
walking_none a b p e = record { position_is = first_is a b p e; exit_is = refl }

pub walking_from : (a b : Axis) (p : Vec2) (k : ℕ) → p ≡ position a b k → k ≤ exit a b → Walking a b p k
walking_from a b p k e h = record { position_is = e; exit_is = found_from a b k h }

module _ {a b : Axis} {p : Vec2} {k : ℕ} (g : Walking a b p k) where
  here : goes_on a b k ≡ in_ranges_of a b p
  here = ap (in_ranges_of a b) (sym g.position_is)

  pub walking_more : k < most_steps → in_ranges_of a b p ≡ true → (q : Vec2) → q ≡ next a b p → Walking a b q (k + 1)
  walking_more less on q e =
      let n = most_steps - (k + 1) in
      let m : most_steps - k ≡ suc n = omega arith in
      record {
        position_is = next_is a b p q k g.position_is e;
        exit_is = g.exit_is ∙ ap (λ (i : ℕ). found a b i k) m ∙ found_later a b n k (here ∙ on) ∙ ap (found a b n) (sym (add-one k));
      }

  pub walking_out : in_ranges_of a b p ≡ false → k ≡ exit a b
  walking_out out = sym (g.exit_is ∙ found_here a b (most_steps - k) k (here ∙ out))

  pub walking_end : k ≡ most_steps → most_steps ≡ exit a b
  walking_end end =
      let z : most_steps - k ≡ 0 = omega arith in
      sym (g.exit_is ∙ ap (λ (i : ℕ). found a b i k) z ∙ unfold first_outside in end)
