-- The bytes of a hatch list: the header, then each record. Definitions only.
use Rattle.std.specs.Prelude.{List, [], ◌∷◌, ◌++◌, ℕ, zero, suc, ◌*◌, ◌/◌, ◌%◌, length, take, drop, Float}
use Rattle.std.specs.Float.{binary32}
use Rattle.std.specs.Float.Ieee.{to_bits}
use Rattle.lists.specs.Places.{upto}
use Rattle.hatch_format.specs.Decode.{record_count_of}

-- the k low bytes of a number, little-endian
abbrev pub bytes_of : ℕ → ℕ → List ℕ
bytes_of zero x = []
bytes_of (suc k) x = x % 256 ∷ bytes_of k (x / 256)

-- those of a 16-bit number, and of a 32-bit one
abbrev pub half_bytes : ℕ → List ℕ
half_bytes x = bytes_of 2 x

abbrev pub word_bytes : ℕ → List ℕ
word_bytes x = bytes_of 4 x

-- the bits of a float, which for a NaN are 7fc00000
abbrev pub bits_of : Float → ℕ
bits_of x = to_bits binary32 x

-- what f gives for each entry, one after the other
unfoldable pub joined : {A B : Type 0} → (A → List B) → List A → List B
joined f [] = []
joined f (x ∷ s) = f x ++ joined f s

-- record i of a list with eight entries a record, and all its records
abbrev pub record_in : {A : Type 0} → List A → ℕ → List A
record_in l i = take 8 (drop (8 * i) l)

abbrev pub records_in : {A : Type 0} → List A → List (List A)
records_in l = upto (record_in l) (record_count_of l)

-- the list without an incomplete last record
abbrev pub whole_records : {A : Type 0} → List A → List A
whole_records l = take (8 * record_count_of l) l

-- mark, version and count
abbrev pub head_bytes : List ℕ → ℕ → ℕ → List ℕ
head_bytes mark version n = mark ++ (half_bytes version ++ half_bytes n)

-- a file of records of any kind, the bytes of each as f has them
unfoldable pub file_of : {A : Type 0} → (A → List ℕ) → List ℕ → ℕ → List A → List ℕ
file_of f mark version rs = head_bytes mark version (length rs) ++ joined f rs

-- a record of eight floats, from their bits
unfoldable pub record_bytes : List ℕ → List ℕ
record_bytes r = joined word_bytes r

-- a file of such records, from the bits of their floats
unfoldable pub encode : List ℕ → ℕ → List ℕ → List ℕ
encode mark version ps = file_of record_bytes mark version (records_in ps)
