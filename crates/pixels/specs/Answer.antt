-- What the two walks answer: how many entries, or a refusal. Definitions only.
use Rattle.std.specs.Prelude.{ℕ, Bool, true, false, Result}
use Rattle.types.specs.declared.shape.Vec2.{Vec2}
use Rattle.types.specs.declared.refusal.Refusal.TheVariants.{Room}
use Rattle.types.specs.declared.refusal.RefusalAt.{RefusalAt}
use Rattle.types.specs.Refusal.{nowhere}
use Rattle.lists.specs.Lent.{fitted}
use Rattle.stroke_check.specs.Check.{accept_of}
use Rattle.stroke_check.specs.Answer.{if_accepted}
use Rattle.pixels.specs.Entries.{stroke_of}

-- the number of the stroke's entries, with the closing one or without it, if the stroke is accepted and a list of this length takes them
unfoldable pub walk_of : Bool → ℕ → ℕ → Vec2 → Vec2 → ℕ → Result ℕ RefusalAt
walk_of closing w h p q room = if_accepted (accept_of w h p q) (fitted (nowhere Room) (stroke_of closing w h p q) room)

abbrev pub overlapping_pixels_dda_of : ℕ → ℕ → Vec2 → Vec2 → ℕ → Result ℕ RefusalAt
overlapping_pixels_dda_of = walk_of true

abbrev pub pixels_inside_of : ℕ → ℕ → Vec2 → Vec2 → ℕ → Result ℕ RefusalAt
pixels_inside_of = walk_of false
