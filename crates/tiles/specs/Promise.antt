-- The contract of `overlapping_tiles`: its answer, the lent list afterwards, and that the tiles are the smallest cover. Definitions only.
use Rattle.std.specs.Prelude.{◌≡◌, List, ℕ, length, take, Result, Ok}
use Rattle.types.specs.declared.shape.Aabb2.{Aabb2}
use Rattle.types.specs.declared.refusal.Refusal.{Refusal}
use Rattle.lists.specs.Lent.{leaves}
use Rattle.tiles.specs.Sheet.{Sheet}
use Rattle.tiles.specs.Cover.{Premises, Smallest}
use Rattle.tiles.specs.Tiles.{tiles_of}
use Rattle.tiles.specs.Answer.{overlapping_tiles_of}
use Rattle.tiles.specs.Rust.{SamePlace}

-- for the sheet s and the box b: l is the lent list, r is what the call returns, and l' is the list afterwards
pub record TilesPromise (s : Sheet) (b : Aabb2) (l : List ℕ) (r : Result ℕ Refusal) (l' : List ℕ) : Type 0 where
  pub answers : r ≡ overlapping_tiles_of s b (length l)
  pub leaves : l' ≡ leaves r (tiles_of s b) l
  -- where a count is returned and the premises hold, the first entries of the list, as many as the count, are the smallest cover
  pub smallest : (n : ℕ) → r ≡ Ok n → Premises b → Smallest s b n (take n l')
  -- a coordinate's place is where the Rust has it
  pub same_place : SamePlace
