-- What a hatch list is, and that exactly hatch lists are accepted. docs/FORMAT.md has the rules. Definitions only.
use Rattle.std.specs.Prelude.{◌≡◌, true, List, ℕ, ◌+◌, ◌*◌, ◌≤◌, length, Result, Ok}
use Rattle.hatch_format.specs.Bytes.{half_at, starts_with_of}
use Rattle.hatch_format.specs.Format.{version_one_of, head}
use Rattle.hatch_format.specs.declared.header.Head.{Head}
use Rattle.types.specs.declared.refusal.RefusalAt.{RefusalAt}

-- the bytes b are a hatch list with this mark and n records: mark, version 1 and count n, which is at most 2,000, and then 32 bytes a record
pub record HatchList (mark b : List ℕ) (n : ℕ) : Type 0 where
  pub marked : starts_with_of mark b ≡ true
  pub version : half_at b 3 ≡ 1
  pub count : half_at b 5 ≡ n
  pub few : n ≤ 2000
  pub whole : length b ≡ 7 + 32 * n

-- of what is answered to the bytes b: if they are a hatch list, they are accepted, as version 1 with their count
abbrev pub Accepts : List ℕ → List ℕ → Result Head RefusalAt → Type 0
Accepts mark b answer = (n : ℕ) → HatchList mark b n → answer ≡ head version_one_of n

-- if they are accepted, they are a hatch list, of that version and with that count
abbrev pub AcceptsOnly : List ℕ → List ℕ → Result Head RefusalAt → Type 0
AcceptsOnly mark b answer = (h : Head) → answer ≡ Ok h → (h.row ≡ version_one_of) × HatchList mark b h.count
