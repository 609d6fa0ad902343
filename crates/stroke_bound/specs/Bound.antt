-- How many entries a stroke makes at most, by its ends and by the sides of the image, to size a list beforehand. Definitions only.
use Rattle.std.specs.Prelude.{Bool, true, ℕ, ◌+◌, ◌-◌, ◌*◌, ◌/◌, ◌^◌, max, min, nat_abs, ◌-ℤ◌, Float, Result, Ok}
use Rattle.types.specs.declared.shape.Vec2.{Vec2}
use Rattle.types.specs.declared.refusal.RefusalAt.{RefusalAt}
use Rattle.float.specs.Units.{units_of}
use Rattle.stroke.specs.Image.{one_if_of}
use Rattle.stroke_check.specs.Check.{accept_of}
use Rattle.stroke_check.specs.Answer.{if_accepted}

-- ---- D

-- the size of the exact difference of two finite numbers, in units of 2 ^ -149: each f32 is a whole number of them, so nothing is rounded
abbrev pub difference_of : Float → Float → ℕ
difference_of x y = nat_abs (units_of y -ℤ units_of x)

-- n / u, rounded up to a whole number; u is not 0
abbrev pub up_to : ℕ → ℕ → ℕ
up_to u n = (n + (u - 1)) / u

-- D: the larger of the exact differences between the ends in x and in y, rounded up to a whole number
unfoldable pub larger_difference_of : Vec2 → Vec2 → ℕ
larger_difference_of p q = up_to (2 ^ 149) (max (difference_of p.x q.x) (difference_of p.y q.y))

-- ---- the bounds: `closing` says whether the walk has the closing entry

-- 2 D + 2 entries at most, and 2 D + 1 without the closing entry
abbrev pub most_by_ends : Bool → Vec2 → Vec2 → ℕ
most_by_ends closing p q = 2 * larger_difference_of p q + 1 + one_if_of closing

-- one for each column or each row of the image, whichever are more, and the closing entry
abbrev pub most_by_sides : Bool → ℕ → ℕ → ℕ
most_by_sides closing w h = max w h + one_if_of closing

-- the lesser of the two
abbrev pub most_entries_of : Bool → ℕ → ℕ → Vec2 → Vec2 → ℕ
most_entries_of closing w h p q = min (most_by_ends closing p q) (most_by_sides closing w h)

-- what `pixels_bound` answers: how many entries the stroke makes at most with the closing one, if it is accepted
unfoldable pub pixels_bound_of : ℕ → ℕ → Vec2 → Vec2 → Result ℕ RefusalAt
pixels_bound_of w h p q = if_accepted (accept_of w h p q) (Ok (most_entries_of true w h p q))
