-- What `overlapping_tiles` returns. Definitions only.
use Rattle.std.specs.Prelude.{Bool, not, ◌||◌, cond, ℕ, ◌*◌, ◌^◌, ltb, eqb, Float, Result, Err}
use Rattle.std.specs.Float.Ieee.Scale.{finite}
use Rattle.types.specs.declared.shape.Aabb2.{Aabb2}
use Rattle.types.specs.declared.refusal.Refusal.{Refusal}
use Rattle.types.specs.declared.refusal.Refusal.TheVariants.{Room, Coordinate, Size}
use Rattle.float.specs.Units.{in_units}
use Rattle.lists.specs.Lent.{fitted}
use Rattle.tiles.specs.Sheet.{Sheet}
use Rattle.tiles.specs.Tiles.{tiles_of}

abbrev pub sheet : ℕ → ℕ → ℕ → Sheet
sheet size width height = record { size = size; width = width; height = height }

-- the tile size is 0 or above 4,096, or a side of the shape is above 16,384
abbrev pub bad_sheet_of : Sheet → Bool
bad_sheet_of s = eqb s.size 0 || ltb 4096 s.size || ltb 16384 s.width || ltb 16384 s.height

-- a NaN, an infinity, or a number above 1,048,576 in size
abbrev pub bad_coordinate_of : Float → Bool
bad_coordinate_of x = not (finite x) || ltb (1048576 * 2 ^ 149) (in_units x)

abbrev pub bad_box_of : Aabb2 → Bool
bad_box_of b = bad_coordinate_of b.min_x || bad_coordinate_of b.min_y || bad_coordinate_of b.max_x || bad_coordinate_of b.max_y

-- The sheet is refused first, then the box, then a list of this length if the tiles do not fit it. Otherwise the answer is how many tiles there are.
unfoldable pub overlapping_tiles_of : Sheet → Aabb2 → ℕ → Result ℕ Refusal
overlapping_tiles_of s b room = cond (bad_sheet_of s) (Err Size) (cond (bad_box_of b) (Err Coordinate) (fitted Room (tiles_of s b) room))
