-- The promise at each way to return: three refusals, and the list.
use mathlib.Core.Path.{◌≡◌, refl, subst}
use mathlib.Core.Bool.{true, false}
use mathlib.Core.List.{List}
use Prim.Native.Nat.{ℕ, ◌≤◌, ◌<◌}
use lib.ListN.{length, take, drop}
use lib.Seq.{take_at}
use lib.Signed.{◌≤ℤ◌}
use lib.Ieee.{Float, binary32, fits}
use borrow.Author.Tests.{lt-ltb, le-ltb}
use Rattle.types.specs.declared.shape.Aabb2.{Aabb2}
use Rattle.std.specs.Prelude.{Ok, Err}
use Rattle.types.specs.declared.refusal.Refusal.TheVariants.{Room, Coordinate, Size}
use Rattle.float.specs.Units.{units_of}
use Rattle.lists.specs.Lent.{written, fitted, leaves}
use Rattle.lists.proofs.Lent.{no_count, same_count}
use Rattle.tiles.specs.Sheet.{Sheet}
use Rattle.tiles.specs.Cover.{NotTiny, Premises, Smallest}
use Rattle.tiles.specs.Tiles.{tiles_of}
use Rattle.tiles.specs.Answer.{bad_sheet_of, bad_box_of, overlapping_tiles_of}
use Rattle.tiles.specs.Promise.{TilesPromise}
use Rattle.tiles.proofs.Accepted.{Taken, taken, sides, corners}
use Rattle.tiles.proofs.Axis.{Axis}
use Rattle.tiles.proofs.Smallest.{smallest_cover}
use Rattle.tiles.proofs.Rust.{rust_place_lem}

-- the corners are f32 values, as a box's are
pub record Floats (b : Aabb2) : Type 0 where
  pub min_x : fits binary32 b.min_x ≡ true
  pub min_y : fits binary32 b.min_y ≡ true
  pub max_x : fits binary32 b.max_x ≡ true
  pub max_y : fits binary32 b.max_y ≡ true

module _ (s : Sheet) (b : Aabb2) (l : List ℕ) where
  pub refused_sheet : bad_sheet_of s ≡ true → TilesPromise s b l (Err Size) l
  unfolding overlapping_tiles_of leaves
  refused_sheet e = record { answers = simp e; leaves = refl; smallest = λ n z. no_count Size n z; same_place = rust_place_lem }

  pub refused_box : bad_sheet_of s ≡ false → bad_box_of b ≡ true → TilesPromise s b l (Err Coordinate) l
  unfolding overlapping_tiles_of leaves
  refused_box e f = record { answers = simp (e, f); leaves = refl; smallest = λ n z. no_count Coordinate n z; same_place = rust_place_lem }

  module _ (e : bad_sheet_of s ≡ false) (f : bad_box_of b ≡ false) where
    pub refused_room : length l < length (tiles_of s b) → TilesPromise s b l (Err Room) l
    unfolding overlapping_tiles_of fitted written leaves
    refused_room h = record { answers = simp (e, f, lt-ltb (length l) (length (tiles_of s b)) h); leaves = refl; smallest = λ n z. no_count Room n z; same_place = rust_place_lem }

    axis : {low high : Float} → Taken low → Taken high → NotTiny low → NotTiny high → units_of low ≤ℤ units_of high → Axis s.size low high
    axis tl th zl zh o = record {
      size_low = (sides s e).size_low;
      size_high = (sides s e).size_high;
      low_taken = tl;
      high_taken = th;
      low_size = zl;
      high_size = zh;
      ordered = o;
    }

    smallest_of : Floats b → Premises b → Smallest s b (length (tiles_of s b)) (tiles_of s b)
    smallest_of t p =
        let c = corners b f in
        smallest_cover s b
        (axis (taken b.min_x t.min_x c.min_x) (taken b.max_x t.max_x c.max_x) p.min_x_size p.max_x_size p.ordered_x)
        (axis (taken b.min_y t.min_y c.min_y) (taken b.max_y t.max_y c.max_y) p.min_y_size p.max_y_size p.ordered_y)

    pub listed : Floats b → length (tiles_of s b) ≤ length l → TilesPromise s b l (Ok (length (tiles_of s b))) (written (tiles_of s b) l)
    unfolding overlapping_tiles_of fitted written leaves
    listed t h =
        let ts = tiles_of s b in
        let after = written ts l in
        let same : take (length ts) after ≡ ts = take_at ts (drop (length ts) l) (length ts) refl in
        record {
          answers = simp (e, f, le-ltb (length l) (length ts) h);
          leaves = refl;
          smallest = λ n z p. subst (λ (m : ℕ). Smallest s b m (take m after)) (same_count (length ts) n z) (rw same (smallest_of t p));
          same_place = rust_place_lem;
        }
