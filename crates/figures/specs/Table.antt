-- How figures are written: their numbers, their shapes, and what a row of each kind says. Definitions only.
use Prim.{Unit}
use Rattle.std.specs.Prelude.{◌≡◌, Bool, true, false, List, [], ◌∷◌, ℕ, ◌-◌, length, Float, Option, Result, Ok, Err}
use Rattle.std.specs.Float.{binary32}
use Rattle.std.specs.Float.Ieee.{round}
use Rattle.types.specs.declared.shape.Vec2.{Vec2}
use Rattle.types.specs.declared.shape.Vec3.{Vec3}
use Rattle.types.specs.declared.shape.Range.{Range}
use Rattle.types.specs.declared.shape.Aabb2.{Aabb2}
use Rattle.types.specs.declared.shape.Aabb3.{Aabb3}
use Rattle.slabs.specs.declared.Interval.{Interval}
use Rattle.types.specs.declared.answer.Pixels.{Pixels}
use Rattle.types.specs.declared.refusal.Refusal.{Refusal}
use Rattle.types.specs.declared.refusal.Refusal.TheVariants.{Room}
use Rattle.types.specs.declared.refusal.RefusalAt.{RefusalAt}
use Rattle.types.specs.Refusal.{nowhere}
use Rattle.range.specs.Values.{intersection_length_of}
use Rattle.slabs.specs.declared.crossing.Crossing.{Crossing}
use Rattle.aabb.specs.Clip.{intersections_against_line_of, intersections_against_ray_of, crossing_against_line_of, crossing_against_ray_of}
use Rattle.aabb_3.specs.Clip.{crossing_against_line_of as crossing_in_space_of}
use Rattle.aabb_lines.specs.Results.{results_of}
use Rattle.aabb_lines.specs.Answer.{intersections_against_lines_of}
use Rattle.aabb2_raster.specs.Raster.{rasterize_of}
use Rattle.tiles.specs.Sheet.{Sheet}
use Rattle.tiles.specs.Tiles.{tiles_of}
use Rattle.tiles.specs.Answer.{overlapping_tiles_of}
use Rattle.pixels.specs.Entries.{stroke_of}
use Rattle.pixels.specs.Answer.{walk_of}
use Rattle.stroke_bound.specs.Bound.{pixels_bound_of}
use Rattle.stroke_ink.specs.Ink.{ink_of}

-- ---- numbers, each an f32: `plus 4`, `minus 1`, `halves 7` for 3.5 and `quarters 1` for 0.25

abbrev pub plus : ℕ → Float
plus n = round binary32 false n 1

abbrev pub minus : ℕ → Float
minus n = round binary32 true n 1

abbrev pub halves : ℕ → Float
halves n = round binary32 false n 2

abbrev pub quarters : ℕ → Float
quarters n = round binary32 false n 4

-- ---- shapes

abbrev pub at : Float → Float → Vec2
at x y = record { x = x; y = y }

abbrev pub in_space : Float → Float → Float → Vec3
in_space x y z = record { x = x; y = y; z = z }

abbrev pub range : Float → Float → Range
range low high = record { low = low; high = high }

abbrev pub box : Float → Float → Float → Float → Aabb2
box a b c d = record { min_x = a; min_y = b; max_x = c; max_y = d }

abbrev pub solid : Float → Float → Float → Float → Float → Float → Aabb3
solid a b c d e f = record { min_x = a; min_y = b; min_z = c; max_x = d; max_y = e; max_z = f }

-- ---- rows: what is asked, and that the definition answers it so, the sign of a zero too

-- a line or a ray by its point and its direction
abbrev pub line : Aabb2 → Vec2 → Vec2 → Interval → Type 0
line b point direction answer = intersections_against_line_of b point direction ≡ answer

abbrev pub ray : Aabb2 → Vec2 → Vec2 → Interval → Type 0
ray b point direction answer = intersections_against_ray_of b point direction ≡ answer

-- a line or a ray with the edge by which it comes in, and a line of space
abbrev pub crossing : Aabb2 → Vec2 → Vec2 → Crossing → Type 0
crossing b point direction answer = crossing_against_line_of b point direction ≡ answer

abbrev pub crossing_ray : Aabb2 → Vec2 → Vec2 → Crossing → Type 0
crossing_ray b point direction answer = crossing_against_ray_of b point direction ≡ answer

abbrev pub crossing_in_space : Aabb3 → Vec3 → Vec3 → Crossing → Type 0
crossing_in_space b point direction answer = crossing_in_space_of b point direction ≡ answer

-- the lines of a face by their floats: the results are these, and a list with just room for them is accepted
abbrev pub face : Aabb2 → List Float → List Float → Type 0
face b lines results = (results_of b lines ≡ results) × (intersections_against_lines_of b lines (length results) ≡ Ok (length results))

-- they are refused so, for a list of results of this length
abbrev pub face_refused : Aabb2 → List Float → ℕ → Refusal → Type 0
face_refused b lines room refusal = intersections_against_lines_of b lines room ≡ Err refusal

abbrev pub overlap : Range → Range → Result (Option Float) Refusal → Type 0
overlap a b answer = intersection_length_of a b ≡ answer

abbrev pub raster : Aabb2 → ℕ → ℕ → Result Pixels Refusal → Type 0
raster b width height answer = rasterize_of b width height ≡ answer

-- the tiles are these, and a list with just room for them is accepted
abbrev pub tiles : Aabb2 → Sheet → List ℕ → Type 0
tiles b sheet numbers = (tiles_of sheet b ≡ numbers) × (overlapping_tiles_of sheet b (length numbers) ≡ Ok (length numbers))

-- the same of a stroke's entries, with the closing one or without it; and a list shorter by one is refused
abbrev pub walk : Bool → Vec2 → Vec2 → ℕ → ℕ → List ℕ → Type 0
walk closing p q width height numbers =
    (stroke_of closing width height p q ≡ numbers)
    × (walk_of closing width height p q (length numbers) ≡ Ok (length numbers))
    × (walk_of closing width height p q (length numbers - 1) ≡ Err (nowhere Room))

abbrev pub stroke : Vec2 → Vec2 → ℕ → ℕ → List ℕ → Type 0
stroke = walk true

abbrev pub inside : Vec2 → Vec2 → ℕ → ℕ → List ℕ → Type 0
inside = walk false

-- how many entries the stroke makes at most, the closing one among them
abbrev pub bound : Vec2 → Vec2 → ℕ → ℕ → ℕ → Type 0
bound p q width height number = pixels_bound_of width height p q ≡ Ok number

-- a stroke is refused so by both walks, whatever the length of the list
abbrev pub stroke_refused : Vec2 → Vec2 → ℕ → ℕ → RefusalAt → Type 0
stroke_refused p q width height refusal = (closing : Bool) (room : ℕ) → walk_of closing width height p q room ≡ Err refusal

-- the ink that a stroke leaves in a box
abbrev pub ink : Vec2 → Vec2 → Aabb2 → Result Float RefusalAt → Type 0
ink p q b answer = ink_of p q b ≡ answer

-- ---- the claim about a list of rows: each of them holds

abbrev pub Hold : List (Type 0) → Type 0
Hold [] = Unit {0}
Hold (row ∷ rows) = row × Hold rows
