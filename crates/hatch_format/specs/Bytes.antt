-- Little-endian numbers in a list of bytes, and marks at its start. A byte past the end of the list counts as 0. Definitions only.
use Rattle.std.specs.Prelude.{Bool, true, false, ◌&&◌, List, [], ◌∷◌, ℕ, ◌+◌, ◌*◌, eqb, get_or}

-- the 16-bit number at a byte
abbrev pub half_at : List ℕ → ℕ → ℕ
half_at b at = get_or b at 0 + 256 * get_or b (at + 1) 0

-- the 32-bit number at a byte
abbrev pub word_at : List ℕ → ℕ → ℕ
word_at b at = get_or b at 0 + 256 * get_or b (at + 1) 0 + 65536 * get_or b (at + 2) 0 + 16777216 * get_or b (at + 3) 0

-- number i, from 0 on, of the 32-bit numbers that begin at a byte
abbrev pub word_from : List ℕ → ℕ → ℕ → ℕ
word_from b at i = word_at b (at + 4 * i)

-- whether the bytes start with the mark
unfoldable pub starts_with_of : List ℕ → List ℕ → Bool
starts_with_of [] b = true
starts_with_of (m ∷ ms) [] = false
starts_with_of (m ∷ ms) (x ∷ b) = eqb x m && starts_with_of ms b
