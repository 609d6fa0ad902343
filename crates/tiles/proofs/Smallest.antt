-- The definition's list is the smallest set of the sheet's tiles that covers the box.
use mathlib.Core.Path.{◌≡◌, refl, sym, ap, ◌∙◌, subst}
use Prim.Native.Nat.{ℕ, ◌+◌, ◌*◌}
use native.Mathlib.Omega.{arith}
use lib.Dec.{T}
use lib.ListN.{length}
use Rattle.types.specs.declared.shape.Vec2.{Vec2}
use Rattle.types.specs.declared.shape.Aabb2.{Aabb2}
use Rattle.tiles.specs.Sheet.{Sheet, Tile, Owns}
use Rattle.tiles.specs.Cover.{Covers, Has, OwnsToCover, Smallest, LeastOfAll}
use Rattle.tiles.specs.Tiles.{first_column, column_count, first_row, row_count, tiles_of}
use Rattle.tiles.proofs.Axis.{Axis, owns_on, one_owner, has_owner, listed_if, listed_only}
use Rattle.tiles.proofs.Members.{rows_has, has_rows}
use Rattle.tiles.proofs.Rising.{Rising, rows_rise, rising_at, no_shorter}

-- ---- a set that covers has each tile that owns a point to be covered, since a point has one tile only

one_tile : (s : Sheet) (t u : ℕ) (p : Vec2) → Owns s t p → Owns s u p → t ≡ u
one_tile s t u p o v =
    let c = one_owner s.size o.tile.column v.tile.column p.x o.owns_x v.owns_x in
    let r = one_owner s.size o.tile.row v.tile.row p.y o.owns_y v.owns_y in
    o.tile.number ∙ ap (λ (x : ℕ). o.tile.row * s.width + x) c ∙ ap (λ (x : ℕ). x * s.width + v.tile.column) r ∙ sym v.tile.number

has_owners : (s : Sheet) (b : Aabb2) (C : ℕ → Type 0) → Covers s b C → (t : ℕ) → OwnsToCover s b t → C t
has_owners s b C k t o = let u = k o.0 o.1 in subst C (one_tile s u.0 t o.0 u.2 o.2) u.1

pub least_of_all : LeastOfAll
least_of_all s b n l m C k t h = has_owners s b C k t ((m.listed t).0 h)

-- ---- the definition's list

module _ (s : Sheet) (b : Aabb2) (ax : Axis s.size b.min_x b.max_x) (ay : Axis s.size b.min_y b.max_y) where
  only_owners : (t : ℕ) → Has (tiles_of s b) t → OwnsToCover s b t
  unfolding tiles_of
  only_owners t m =
      let i = rows_has s.width (first_column s b) (column_count s b) (first_row s b) (row_count s b) t m in
      let x = listed_only ax s.width i.column i.column_from i.column_to in
      let y = listed_only ay s.height i.row i.row_from i.row_to in
      let on-x = owns_on s.size s.width i.column x.1.0 x.0 x.1.3 in
      let on-y = owns_on s.size s.height i.row y.1.0 y.0 y.1.3 in
      let tile : Tile s t = record { column = i.column; row = i.row; column_on = x.0; row_on = y.0; number = i.number } in (
        record { x = x.1.0; y = y.1.0 },
        record { x_f32 = x.1.1; y_f32 = y.1.1; in_box = (x.1.2, y.1.2); on_sheet = (on-x, on-y) },
        record { tile = tile; owns_x = x.1.3; owns_y = y.1.3 },
      )

  all_owners : (t : ℕ) → OwnsToCover s b t → Has (tiles_of s b) t
  unfolding tiles_of
  all_owners t h =
      let p = h.0 in
      let w = h.1 in
      let o = h.2 in
      let i = o.tile in
      let x = listed_if ax s.width i.column p.x i.column_on w.in_box.0 o.owns_x in
      let y = listed_if ay s.height i.row p.y i.row_on w.in_box.1 o.owns_y in
      has_rows s.width (first_column s b) (column_count s b) (first_row s b) (row_count s b) t
      (record { column = i.column; row = i.row; column_from = x.0; column_to = x.1; row_from = y.0; row_to = y.1; number = i.number })

  covers : Covers s b (Has (tiles_of s b))
  covers p w =
      let x = has_owner s.size s.width p.x ax.size_low w.on_sheet.0 in
      let y = has_owner s.size s.height p.y ay.size_low w.on_sheet.1 in
      let t = y.0 * s.width + x.0 in
      let tile : Tile s t = record { column = x.0; row = y.0; column_on = x.1; row_on = y.1; number = refl } in
      let o : Owns s t p = record { tile = tile; owns_x = x.2; owns_y = y.2 } in
      (t, all_owners t (p, w, o), o)

  rising : Rising (first_row s b * s.width + first_column s b) (tiles_of s b)
  unfolding tiles_of
  rising = rows_rise s.width (first_column s b) (column_count s b) (first_row s b) (row_count s b) (omega arith)

  pub smallest_cover : Smallest s b (length (tiles_of s b)) (tiles_of s b)
  smallest_cover =
      let first = first_row s b * s.width + first_column s b in
      record {
        counted = refl;
        covers = covers;
        listed = λ t. (only_owners t, all_owners t);
        least = λ C k t h. has_owners s b (λ u. T (C u)) k t (only_owners t h);
        fewest = λ m k. no_shorter first (tiles_of s b) m rising (λ t h. has_owners s b (Has m) k t (only_owners t h));
        rises = rising_at first (tiles_of s b) rising;
      }
