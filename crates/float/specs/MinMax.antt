-- What the minimum and the maximum of two floats are, a NaN and two zeros among them. Definitions only.
use Rattle.std.specs.Prelude.{◌≡◌, Bool, false, ◌⊎◌, pos, Float}
use Rattle.std.specs.Float.{nan, fin}
use Rattle.std.specs.Float.Ieee.{lt}
use Rattle.float.specs.Values.{min_of, max_of}

-- `pick` gives the first of two floats in an order
pub record Picks (before : Float → Float → Bool) (pick : Float → Float → Float) : Type 0 where
  pub one_of : (a b : Float) → (pick a b ≡ a) ⊎ (pick a b ≡ b)
  pub none_before : (a b : Float) → (before a (pick a b) ≡ false) × (before b (pick a b) ≡ false)
  -- a NaN is dropped if the other is a number
  pub drops_nan : (a : Float) → (pick nan a ≡ a) × (pick a nan ≡ a)
  -- of two zeros the first argument is given, whatever the signs
  pub first_zero : (s t : Bool) → pick (fin s 0 (pos 0)) (fin t 0 (pos 0)) ≡ fin s 0 (pos 0)

abbrev pub MinimumPicks : Type 0
MinimumPicks = Picks lt min_of

abbrev pub MaximumPicks : Type 0
MaximumPicks = Picks (λ a b. lt b a) max_of
