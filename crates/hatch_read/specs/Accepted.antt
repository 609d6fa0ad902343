-- Which bytes a reader accepts, and what it leaves of them, said of a call. Definitions only.
use Rattle.std.specs.Prelude.{◌≡◌, List, map, ℕ, ◌*◌, ◌≤◌, length, Result, Ok}
use Rattle.lists.specs.Lent.{written}
use Rattle.hatch_format.specs.Format.{hsl}
use Rattle.hatch_format.specs.Decode.{patterns_of}
use Rattle.hatch_format.specs.HatchList.{HatchList}
use Rattle.hatch_read.specs.declared.Read.{Read}
use Rattle.types.specs.declared.refusal.RefusalAt.{RefusalAt}

-- Exactly the hatch lists for whose records the list has room are accepted. `answer` is the answer to the bytes b, l the list before the call and
-- l' the list after it; f is what the bits of a float are read as.
pub record ReadsExactly {A : Type 0} (f : ℕ → A) (b : List ℕ) (answer : Result Read RefusalAt) (l l' : List A) : Type 0 where
  -- such a file gives version 1 and its count, and its floats, eight a record, are the first entries of the list
  pub accepts :
      (n : ℕ) → HatchList hsl b n → 8 * n ≤ length l
      → (answer ≡ Ok (record { version = 1; count = n })) × (l' ≡ written (map f (patterns_of 32 b n)) l)
  -- nothing else is accepted
  pub accepts_only : (r : Read) → answer ≡ Ok r → (r.version ≡ 1) × HatchList hsl b r.count × (8 * r.count ≤ length l)
