-- Records by a hash: for each, the last one before it that has the same hash. Definitions only.
use Rattle.std.specs.Prelude.{◌≡◌, cond, List, [], ℕ, zero, suc, ◌%◌, ◌<◌, eqb, get_or, length}
use Rattle.std.specs.Hash.FoldHasher.{initial, write, finish}

-- a hash of the bytes of a record
abbrev pub bucket_of : List ℕ → ℕ
bucket_of bytes = finish (write initial bytes) % 4096

-- of the first n records, the number of the last one with a hash: 4000, which is that of no record, if there is none
unfoldable pub last_of : List (List ℕ) → ℕ → ℕ → ℕ
last_of records bucket zero = 4000
last_of records bucket (suc n) = cond (eqb (bucket_of (get_or records n [])) bucket) n (last_of records bucket n)

-- `before` has, for each record, the last one before it with its hash
abbrev pub Chained : List (List ℕ) → List ℕ → Type 0
Chained records before = (k : ℕ) → k < length records → get_or before k 0 ≡ last_of records (bucket_of (get_or records k [])) k
