-- The columns and rows that the code works out, and what it may do with them.
use mathlib.Core.Path.{◌≡◌, refl, sym, ap, ◌∙◌, subst}
use mathlib.Core.Bool.{false}
use mathlib.Core.List.{List, [], ◌∷◌, ◌++◌}
use Prim.Native.Nat.{ℕ, ◌+◌, ◌*◌, ◌≤◌, ◌<◌}
use native.Mathlib.Nat.{mul-le-mul, mul-zero, zero-mul}
use native.Mathlib.Omega.{arith}
use lib.ListN.{length, drop}
use Rattle.types.specs.declared.shape.Aabb2.{Aabb2}
use Rattle.std.specs.Prelude.{Ok, Err}
use Rattle.types.specs.declared.refusal.Refusal.TheVariants.{Room}
use Rattle.lists.specs.Lent.{written}
use Rattle.tiles.specs.Sheet.{Sheet}
use Rattle.tiles.specs.Tiles.{first_column, column_count, first_row, row_count, rows, tiles_of}
use Rattle.tiles.specs.Answer.{bad_sheet_of, bad_box_of}
use Rattle.tiles.specs.Promise.{TilesPromise}
use Rattle.tiles.proofs.Accepted.{sides}
use Rattle.tiles.proofs.Lists.{length_rows}
use Rattle.tiles.proofs.Promised.{Floats, refused_room, listed}

-- past the first two tests: k columns from c on, n rows from r on
pub record Found (s : Sheet) (b : Aabb2) (c k r n : ℕ) : Type 0 where
  pub sheet_good : bad_sheet_of s ≡ false
  pub box_good : bad_box_of b ≡ false
  pub c_is : c ≡ first_column s b
  pub k_is : k ≡ column_count s b
  pub r_is : r ≡ first_row s b
  pub n_is : n ≡ row_count s b

module _ {s : Sheet} {b : Aabb2} {c k r n : ℕ} (f : Found s b c k r n) where
  rows_are : rows s.width c k r n ≡ tiles_of s b
  unfolding tiles_of
  rows_are = rw (f.c_is, f.k_is, f.r_is, f.n_is)

  count_is : length (tiles_of s b) ≡ n * k
  count_is = ap length (sym rows_are) ∙ length_rows s.width c k r n

  pub count_le : n * k ≤ 268435456
  count_le = let d = sides s f.sheet_good in mul-le-mul {n₂ = 16384} {m₂ = 16384} (omega arith) (omega arith)

  -- where there is a tile, its column and its row are on the sheet. No proof cites this law, which docs/PORT.md names.
  pub on_sheet : (n * k ≡ 0 → ⊥) → (c + k ≤ s.width) × (s.width ≤ 16384) × (r + n ≤ 16384)
  on_sheet z =
      let d = sides s f.sheet_good in
      let K : k ≡ 0 → ⊥ = λ (e : k ≡ 0). z (ap (λ (x : ℕ). n * x) e ∙ mul-zero n) in
      let N : n ≡ 0 → ⊥ = λ (e : n ≡ 0). z (ap (λ (x : ℕ). x * k) e ∙ zero-mul k) in
      (omega arith, d.width_high, omega arith)

  module _ (l : List ℕ) where
    pub too_short : length l < n * k → TilesPromise s b l (Err Room) l
    too_short h = refused_room s b l f.sheet_good f.box_good (rw count_is h)

    pub filled : (l' : List ℕ) → Floats b → n * k ≤ length l → l' ≡ rows s.width c k r n ++ drop (n * k) l → TilesPromise s b l (Ok (n * k)) l'
    unfolding written
    filled l' t h e = rw (e, rows_are, ← count_is) (listed s b l f.sheet_good f.box_good t (rw count_is h))

    -- with no tile there is nothing to write
    pub empty : Floats b → n * k ≡ 0 → TilesPromise s b l (Ok 0) l
    empty t z =
        let ts = rows s.width c k r n in
        let same : l ≡ ts ++ drop (n * k) l = nil ts (length_rows s.width c k r n ∙ z) ∙ ap (λ (x : ℕ). ts ++ drop x l) (sym z) in
        subst (λ (x : ℕ). TilesPromise s b l (Ok x) l) z (filled l t (omega arith) same)
      where
        nil : (x : List ℕ) → length x ≡ 0 → l ≡ x ++ l
        nil [] e = refl
        nil (a ∷ x) e = absurd (let z : ⊥ = omega arith in z)
