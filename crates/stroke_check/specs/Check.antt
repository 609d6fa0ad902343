-- What is tested of a stroke before it is walked, and of its coordinates before its ink is measured. Definitions only.
use Rattle.std.specs.Prelude.{Bool, cond, ◌&&◌, List, [], ◌∷◌, ℕ, suc, Float, Option, None, Some, Result, Ok, Err}
use Rattle.std.specs.Float.{binary32}
use Rattle.std.specs.Float.Ieee.{of_bits, le, eq}
use Rattle.std.specs.Float.Ieee.Scale.{finite}
use Rattle.types.specs.declared.shape.Vec2.{Vec2}
use Rattle.float.specs.Values.{abs_of}
use Rattle.types.specs.declared.refusal.Refusal.{Refusal}
use Rattle.types.specs.declared.refusal.Refusal.TheVariants.{SameEnds, Coordinate, Size, NotFinite}
use Rattle.types.specs.declared.refusal.RefusalAt.{RefusalAt}
use Rattle.types.specs.Refusal.{refusal_at, nowhere}
use Rattle.types.specs.Side.{sides_too_large_of}

-- 65,536
abbrev pub limit : Float
limit = of_bits binary32 0x4780_0000

-- finite and at most 65,536 in size, which no NaN and no infinity is
unfoldable pub within_limit_of : Float → Bool
within_limit_of x = le (abs_of x) limit

-- the refusal of a coordinate that is not within the limit
unfoldable pub refusal_of : Float → Refusal
refusal_of x = cond (finite x) Coordinate NotFinite

-- the first coordinate that is not within the limit, places counted from `at`
unfoldable pub offender_from : ℕ → List Float → Option RefusalAt
offender_from at [] = None
offender_from at (x ∷ xs) = cond (within_limit_of x) (offender_from (suc at) xs) (Some (refusal_at (refusal_of x) at))

-- its refusal and its place, from 0 on, decided together
abbrev pub first_offender_of : List Float → Option RefusalAt
first_offender_of xs = offender_from 0 xs

-- in the order of the arguments
abbrev pub coordinates : Vec2 → Vec2 → List Float
coordinates p q = p.x ∷ p.y ∷ q.x ∷ q.y ∷ []

-- equal as numbers: +0 equals -0
unfoldable pub same_ends_of : Vec2 → Vec2 → Bool
same_ends_of p q = eq p.x q.x && eq p.y q.y

-- ---- the tests in their order

-- a coordinate that offends is refused, and else r is the outcome
unfoldable pub unless_offender : {A : Type 0} → Option RefusalAt → Result A RefusalAt → Result A RefusalAt
unless_offender (Some offender) r = Err offender
unless_offender None r = r

-- the sides of an image w by h, then the coordinates of the ends p and q, then whether the ends are equal
unfoldable pub accept_of : ℕ → ℕ → Vec2 → Vec2 → Result Unit RefusalAt
accept_of w h p q =
    cond (sides_too_large_of w h)
    (Err (nowhere Size))
    (unless_offender (first_offender_of (coordinates p q)) (cond (same_ends_of p q) (Err (nowhere SameEnds)) (Ok tt)))
