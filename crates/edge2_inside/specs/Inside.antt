-- The length of an edge inside an upright box, as the Rust takes it: the diagonal of the overlaps in x and in y. Definitions only.
use Rattle.std.specs.Prelude.{Float, Option, None, Some, Result, Ok, Err}
use Rattle.types.specs.declared.shape.Vec2.{Vec2}
use Rattle.types.specs.declared.shape.Range.{Range}
use Rattle.types.specs.declared.shape.Aabb2.{Aabb2}
use Rattle.types.specs.Aabb2.{x_range_of, y_range_of}
use Rattle.types.specs.declared.refusal.Refusal.{Refusal}
use Rattle.float.specs.Rounded.{◌⊕◌, ◌⊗◌, +0}
use Rattle.float.specs.Values.{min_of, max_of}
use Rattle.range.specs.Values.{intersection_length_of}
use Rattle.root.specs.Root.{sqrt_of}

-- what a range shares with that between s and e
abbrev pub shared_of : Range → Float → Float → Result (Option Float) Refusal
shared_of r s e = intersection_length_of r (record { low = min_of s e; high = max_of s e })

-- the diagonal of the two overlaps; 0 where there is none, and y counts only where x has one
unfoldable pub diagonal_of : Result (Option Float) Refusal → Result (Option Float) Refusal → Result Float Refusal
diagonal_of (Err refusal) y = Err refusal
diagonal_of (Ok None) y = Ok +0
diagonal_of (Ok (Some dx)) (Err refusal) = Err refusal
diagonal_of (Ok (Some dx)) (Ok None) = Ok +0
diagonal_of (Ok (Some dx)) (Ok (Some dy)) = Ok (sqrt_of (dx ⊗ dx ⊕ dy ⊗ dy))

unfoldable pub intersection_length_against_aabb2_of : Vec2 → Vec2 → Aabb2 → Result Float Refusal
intersection_length_against_aabb2_of s e b = diagonal_of (shared_of (x_range_of b) s.x e.x) (shared_of (y_range_of b) s.y e.y)
