-- The premises can be met: the six tiles of the box from (10, 10) to (40, 20) on a sheet of 4 by 3 tiles of 16 by 16, with a lent list of eight
-- entries.
use mathlib.Core.Path.{refl}
use mathlib.Core.Logic.{inr}
use mathlib.Core.List.{[], ◌∷◌}
use lib.Dec.{lit≤}
use lib.IntN.{pos}
use lib.Signed.{le_z_yes}
use Prim.Native.Nat.{ℕ}
use lib.Ieee.{Float, binary32, fits, div, of_int}
use Rattle.types.specs.declared.shape.Aabb2.{Aabb2}
use Rattle.lists.specs.Lent.{written}
use Rattle.tiles.specs.Cover.{Premises, Smallest}
use Rattle.tiles.specs.Tiles.{tiles_of}
use Rattle.tiles.specs.Answer.{sheet}
use Rattle.tiles.proofs.Promised.{Floats, listed}

abbrev whole : ℕ → Float
whole n = of_int binary32 (pos n)

abbrev box1 : Aabb2
box1 = record { min_x = whole 10; min_y = whole 10; max_x = whole 40; max_y = whole 20 }

floats : Floats box1
unfolding fits of_int
floats = record { min_x = refl; min_y = refl; max_x = refl; max_y = refl }

premises : Premises box1
unfolding of_int
premises = record {
  ordered_x = le_z_yes tt;
  ordered_y = le_z_yes tt;
  min_x_size = inr (lit≤ tt);
  min_y_size = inr (lit≤ tt);
  max_x_size = inr (lit≤ tt);
  max_y_size = inr (lit≤ tt);
}

pub example : Smallest (sheet 16 4 3) box1 6 (0 ∷ 1 ∷ 2 ∷ 4 ∷ 5 ∷ 6 ∷ [])
unfolding written tiles_of div of_int
example = (listed (sheet 16 4 3) box1 (9 ∷ 9 ∷ 9 ∷ 9 ∷ 9 ∷ 9 ∷ 9 ∷ 9 ∷ []) refl refl floats (lit≤ tt)).smallest 6 refl premises
