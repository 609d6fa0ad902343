-- What stands in the list of tiles: the numbers of its rows and columns.
use mathlib.Core.Path.{◌≡◌, sym, ap}
use mathlib.Core.Logic.{inl, inr}
use mathlib.Core.List.Memᴰ
use Prim.Native.Nat.{ℕ, zero, suc, ◌+◌, ◌-◌, ◌*◌, ◌≤◌, ◌<◌}
use native.Mathlib.Nat.{le_refl, eq-or-lt_of_le}
use native.Mathlib.Omega.{arith}
use Rattle.tiles.specs.Cover.{Has}
use Rattle.tiles.specs.Tiles.{run, rows}

run_has : (t a k : ℕ) → Has (run a k) t → (a ≤ t) × (t < a + k)
run_has t a zero m = absurd (Memᴰ.not-nil m)
run_has t a (suc k) m = elim (Memᴰ.cases_cons m) [
  | inl e ↦ (omega arith, omega arith)
  | inr d ↦ let h = run_has t (suc a) k d in (omega arith, omega arith)
]

has_run : (t a k : ℕ) → a ≤ t → t < a + k → Has (run a k) t
has_run t a zero h l = absurd (let z : ⊥ = omega arith in z)
has_run t a (suc k) h l = elim (eq-or-lt_of_le h) [
  | inl e ↦ Memᴰ.head (sym e)
  | inr g ↦ Memᴰ.tail (has_run t (suc a) k g (omega arith))
]

-- t is the number of a row from r to below r + n and a column from c to below c + k
pub record Inside (w c k r n t : ℕ) : Type 0 where
  pub column : ℕ
  pub row : ℕ
  pub column_from : c ≤ column
  pub column_to : column < c + k
  pub row_from : r ≤ row
  pub row_to : row < r + n
  pub number : t ≡ row * w + column

-- rows one further down
down_one : {w c k r n t : ℕ} → Inside w c k (suc r) n t → Inside w c k r (suc n) t
down_one h = record {
  column = h.column;
  row = h.row;
  column_from = h.column_from;
  column_to = h.column_to;
  row_from = omega arith;
  row_to = omega arith;
  number = h.number;
}

pub rows_has : (w c k r n t : ℕ) → Has (rows w c k r n) t → Inside w c k r n t
rows_has w c k r zero t m = absurd (Memᴰ.not-nil m)
rows_has w c k r (suc n) t m = elim (Memᴰ.append_cases (run (r * w + c) k) m) [
  | inr d ↦ down_one (rows_has w c k (suc r) n t d)
  | inl d ↦
      let h = run_has t (r * w + c) k d in
      record { column = t - r * w; row = r; column_from = omega arith; column_to = omega arith; row_from = le_refl r; row_to = omega arith; number = omega arith }
]

pub has_rows : (w c k r n t : ℕ) → Inside w c k r n t → Has (rows w c k r n) t
has_rows w c k r zero t h = absurd (let z : ⊥ = omega arith in z)
has_rows w c k r (suc n) t h = elim (eq-or-lt_of_le h.row_from) [
  | inl e ↦
      let p : r * w ≡ h.row * w = ap (λ (x : ℕ). x * w) e in
      Memᴰ.append_left (rows w c k (suc r) n) (has_run t (r * w + c) k (omega arith) (omega arith))
  | inr l ↦ Memᴰ.append_right (run (r * w + c) k) (has_rows w c k (suc r) n t (record {
    column = h.column;
    row = h.row;
    column_from = h.column_from;
    column_to = h.column_to;
    row_from = l;
    row_to = omega arith;
    number = h.number;
  }))
]
