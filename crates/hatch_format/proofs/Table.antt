-- A row that is found in a table: what holds of each row holds of it, and its version is the one looked for.
use mathlib.Core.Path.{◌≡◌, refl, subst}
use mathlib.Core.Bool.{Bool, true, false, cond}
use mathlib.Core.List.{List, [], ◌∷◌}
use Prim.Native.Nat.{ℕ, ◌+◌, ◌*◌, ◌<◌, ◌≤◌}
use native.Mathlib.Omega.{arith}
use lib.Dec.{eqb, lit≤}
use borrow.Author.Tests.{eqb-true}
use Rattle.hatch_format.specs.Format.{rows, layout_of}
use Rattle.hatch_format.specs.declared.header.Row.{Row}
use Rattle.hatch_format.specs.declared.header.TheConstants.{BYTES_MAX}
use Rattle.std.specs.Prelude.{Some}

unfoldable pub Each : (Row → Type 0) → List Row → Type 0
Each P [] = Unit
Each P (r ∷ rs) = P r × Each P rs

pub found : (P : Row → Type 0) (table : List Row) (v : ℕ) (r : Row) → Each P table → layout_of table v ≡ Some r → P r × (r.version ≡ v)
unfolding Each layout_of
found P [] v r h e = absurd (let z : ◌≡◌ {A = ℕ} 0 1 = cc in omega arith)
found P (s ∷ table) v r h e = go (eqb s.version v) refl e (found P table v r h.1)
  where
    go : (t : Bool) → eqb s.version v ≡ t → cond t (Some s) (layout_of table v) ≡ Some r → (layout_of table v ≡ Some r → P r × (r.version ≡ v))
        → P r × (r.version ≡ v)
    go true t e later = let is : s ≡ r = cc in (subst P is h.0, subst (λ (q : Row). q.version ≡ v) is (eqb-true s.version v t))
    go false t e later = later e

pub found_version : (table : List Row) (v : ℕ) (r : Row) → layout_of table v ≡ Some r → r.version ≡ v
unfolding Each
found_version table v r e = (found (λ (_ : Row). Unit) table v r (each_row table) e).1
  where
    each_row : (t : List Row) → Each (λ (_ : Row). Unit) t
    each_row [] = tt
    each_row (r ∷ t) = (tt, each_row t)

-- what is relied on of a version: a record holds its eight floats, no file is longer than BYTES_MAX, and a report says version and count in four
-- digits each
pub record Fine (r : Row) : Type 0 where
  pub digits : r.version < 10000
  pub wide : 32 ≤ r.width
  pub narrow : r.width < 65536
  pub few : r.limit ≤ 2000
  pub short : 7 + r.width * r.limit ≤ BYTES_MAX

pub fine : Each Fine rows
unfolding Each
fine = (record { digits = lit≤ tt; wide = lit≤ tt; narrow = lit≤ tt; few = lit≤ tt; short = lit≤ tt }, tt)
