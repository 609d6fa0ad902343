-- What a file says: its version, its count, and the bits of the floats of its records, eight a record. A float may have any bits. Definitions only.
use Rattle.std.specs.Prelude.{◌≡◌, cond, List, ℕ, ◌+◌, ◌*◌, ◌/◌, ◌%◌, ◌≤◌, ltb, length, replicate, Option, None, Some, Float, Result, Ok, Err}
use Rattle.std.specs.Float.{binary32}
use Rattle.std.specs.Float.Ieee.{of_bits}
use Rattle.lists.specs.Places.{upto}
use Rattle.hatch_format.specs.Bytes.{word_from}
use Rattle.hatch_format.specs.Format.{record_place, head_of}
use Rattle.hatch_format.specs.declared.header.Row.{Row}
use Rattle.hatch_format.specs.declared.header.Head.{Head}
use Rattle.types.specs.declared.refusal.RefusalAt.{RefusalAt}

-- how many records a list of floats, or of their bits, has: eight entries are one, and an incomplete last record does not count
abbrev pub record_count_of : {A : Type 0} → List A → ℕ
record_count_of l = length l / 8

-- float k of the file, as its bits: a record starts with its eight floats
abbrev pub pattern_at_of : ℕ → List ℕ → ℕ → ℕ
pattern_at_of width b k = word_from b (record_place width (k / 8)) (k % 8)

-- the bits of the floats of n records
abbrev pub patterns_of : ℕ → List ℕ → ℕ → List ℕ
patterns_of width b n = upto (pattern_at_of width b) (8 * n)

-- what the bits of a float are read as: in a list of patterns these bits, in a list of floats the float that has them
abbrev pub itself : ℕ → ℕ
itself p = p

abbrev pub float_of : ℕ → Float
float_of p = of_bits binary32 p

-- what an accepted file says: version, count and the bits of the floats
pub record Contents : Type 0 where
  pub version : ℕ
  pub count : ℕ
  pub patterns : List ℕ

-- what a file says, or why it is refused, with a byte
abbrev pub Answer : Type 0
Answer = Result Contents RefusalAt

abbrev pub accepted : ℕ → ℕ → List ℕ → Answer
accepted version count patterns = Ok (record { version = version; count = count; patterns = patterns })

unfoldable pub body_of : Result Head RefusalAt → List ℕ → Answer
body_of (Err at) b = Err at
body_of (Ok h) b = accepted h.row.version h.count (patterns_of h.row.width b h.count)

unfoldable pub decode : List ℕ → List Row → List ℕ → Answer
decode mark table b = body_of (head_of mark table b) b

-- the bits of the eight floats of the record at a byte, if the bytes do not end before it does
unfoldable pub record_words_of : List ℕ → ℕ → Option (List ℕ)
record_words_of b at = cond (ltb (length b) (at + 32)) None (Some (upto (word_from b at) 8))

-- the same, with eight zeros if the bytes end before the record does
unfoldable pub record_bits_of : List ℕ → ℕ → List ℕ
record_bits_of b at = cond (ltb (length b) (at + 32)) (replicate 8 0) (upto (word_from b at) 8)

-- the bytes are a header and n records of `width` bytes, which are enough for eight floats
pub record Holds (width n : ℕ) (b : List ℕ) : Type 0 where
  pub whole : length b ≡ 7 + width * n
  pub wide : 32 ≤ width
