-- A stroke's walk leaves the ranges of its ends by itself, so that the definition's bound on its steps decides nothing. Definitions only.
use Rattle.std.specs.Prelude.{◌≡◌, true, false, ℕ, ◌≤◌, ◌<◌}
use Rattle.stroke.specs.declared.axis.Axis.{Axis}
use Rattle.stroke.specs.Walk.{goes_on, first_outside, most_steps, exit}

pub record Stops (a b : Axis) : Type 0 where
  -- it takes 131,074 steps at most
  pub few : exit a b ≤ most_steps
  -- it goes on at each position before its exit, and not there
  pub on : (k : ℕ) → k < exit a b → goes_on a b k ≡ true
  pub out : goes_on a b (exit a b) ≡ false
  -- and with any greater bound the exit is the same
  pub any_bound : (n : ℕ) → most_steps ≤ n → first_outside a b n (goes_on a b 0) 0 ≡ exit a b
