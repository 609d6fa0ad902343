-- The sheet, its tiles, and the points that each tile owns. Comparisons are exact: a finite f32 is a whole number of units of 2 ^ -149, `units_of`,
-- and whole numbers are counted in these units too. Definitions only.
use Rattle.std.specs.Prelude.{◌≡◌, ℕ, suc, ◌+◌, ◌*◌, ◌^◌, ◌<◌, ℤ, pos, ◌≤ℤ◌, ◌<ℤ◌, Float}
use Rattle.types.specs.declared.shape.Vec2.{Vec2}
use Rattle.float.specs.Units.{units_of}

-- `height` rows of `width` tiles, each of them `size` by `size`
pub record Sheet : Type 0 where
  pub size : ℕ
  pub width : ℕ
  pub height : ℕ

-- the low edge of column or row i: i × size
abbrev pub edge : ℕ → ℕ → ℤ
edge size i = pos (i * size * 2 ^ 149)

-- A point is on the sheet where 0 ≤ x < width × size and 0 ≤ y < height × size.
abbrev pub OnAxis : ℕ → ℕ → Float → Type 0
OnAxis size n x = (pos 0 ≤ℤ units_of x) × (units_of x <ℤ edge size n)

abbrev pub OnSheet : Sheet → Vec2 → Type 0
OnSheet s p = OnAxis s.size s.width p.x × OnAxis s.size s.height p.y

-- Column i owns x where i × size ≤ x < (i + 1) × size, and row i owns y likewise.
abbrev pub OwnsAt : ℕ → ℕ → Float → Type 0
OwnsAt size i x = (edge size i ≤ℤ units_of x) × (units_of x <ℤ edge size (suc i))

-- t is the number of a tile of the sheet: columns and rows are counted from 0, and numbers go along the rows
pub record Tile (s : Sheet) (t : ℕ) : Type 0 where
  pub column : ℕ
  pub row : ℕ
  pub column_on : column < s.width
  pub row_on : row < s.height
  pub number : t ≡ row * s.width + column

-- A tile owns the points whose x its column owns and whose y its row owns. So its low edges are its own, and its high edges are its neighbours'.
pub record Owns (s : Sheet) (t : ℕ) (p : Vec2) : Type 0 where
  pub tile : Tile s t
  pub owns_x : OwnsAt s.size tile.column p.x
  pub owns_y : OwnsAt s.size tile.row p.y
