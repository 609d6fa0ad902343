-- The list of tiles that a box overlaps, by floors of rounded quotients, as the Rust has it. Definitions only.
use Rattle.std.specs.Prelude.{List, [], ◌∷◌, ◌++◌, ℕ, zero, suc, ◌+◌, ◌-◌, ◌*◌, ◌^◌, min, ℤ, pos, negsuc, Float}
use Rattle.std.specs.Int.Signed.{shr_z}
use Rattle.std.specs.Float.{binary32}
use Rattle.std.specs.Float.Ieee.{of_int}
use Rattle.types.specs.declared.shape.Aabb2.{Aabb2}
use Rattle.float.specs.Rounded.{◌⊘◌}
use Rattle.float.specs.Units.{units_of}
use Rattle.tiles.specs.Sheet.{Sheet}

-- ---- the places on one axis: columns in x, rows in y

-- the largest whole number that is not above a finite x: its units divided by those of 1, and `shr_z` rounds down
abbrev pub floor_int : Float → ℤ
floor_int x = shr_z (units_of x) (2 ^ 149)

-- the place that a coordinate of the box lies in: the floor of x / size, the quotient rounded. It may be off the sheet
abbrev pub place : ℕ → Float → ℤ
place size x = floor_int (x ⊘ of_int binary32 (pos size))

-- of the places from 0 on, the first that is not before z, and the first after z
abbrev pub from : ℤ → ℕ
from (pos n) = n
from (negsuc n) = 0

abbrev pub past : ℤ → ℕ
past (pos n) = suc n
past (negsuc n) = 0

-- The places from that of the low end up to that of the high end, both among them, as far as they are on the sheet: the first, the one past the last,
-- and how many of the sheet's n places they are.
abbrev pub first_place : ℕ → Float → ℕ
first_place size low = from (place size low)

abbrev pub past_place_of : ℕ → Float → ℕ
past_place_of size high = past (place size high)

abbrev pub place_count : ℕ → ℕ → Float → Float → ℕ
place_count size n low high = min n (past_place_of size high) - first_place size low

-- ---- their tiles

-- a, a + 1, ..: k numbers
abbrev pub run : ℕ → ℕ → List ℕ
run a zero = []
run a (suc k) = a ∷ run (suc a) k

-- n rows from row r on, and of each row the k tiles from column c on. A tile's number is row × width + column, so the numbers rise
abbrev pub rows : ℕ → ℕ → ℕ → ℕ → ℕ → List ℕ
rows width c k r zero = []
rows width c k r (suc n) = run (r * width + c) k ++ rows width c k (suc r) n

abbrev pub first_column : Sheet → Aabb2 → ℕ
first_column s b = first_place s.size b.min_x

abbrev pub column_count : Sheet → Aabb2 → ℕ
column_count s b = place_count s.size s.width b.min_x b.max_x

abbrev pub first_row : Sheet → Aabb2 → ℕ
first_row s b = first_place s.size b.min_y

abbrev pub row_count : Sheet → Aabb2 → ℕ
row_count s b = place_count s.size s.height b.min_y b.max_y

unfoldable pub tiles_of : Sheet → Aabb2 → List ℕ
tiles_of s b = rows s.width (first_column s b) (column_count s b) (first_row s b) (row_count s b)
