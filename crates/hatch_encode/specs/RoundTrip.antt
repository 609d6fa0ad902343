-- Reading and writing undo each other, for any mark of three bytes and any table of versions: first for records of any kind and width, given by
-- their bytes, then for records of eight floats. The four statements are proved in proofs/Files.antt and proofs/RoundTrip.antt; the contracts of
-- hatch_write have what they say of version 1. Definitions only.
use Rattle.std.specs.Prelude.{◌≡◌, List, ℕ, ◌*◌, ◌<◌, ◌≤◌, length, get_or, take, drop, Some}
use Rattle.hatch_format.specs.Format.{layout_of, head, head_of}
use Rattle.hatch_format.specs.Decode.{record_count_of, accepted, decode}
use Rattle.hatch_format.specs.declared.header.Row.{Row}
use Rattle.hatch_encode.specs.Encode.{whole_records, file_of, encode}

-- each number of a list is below the bound
abbrev pub Below : ℕ → List ℕ → Type 0
Below bound l = (k : ℕ) → get_or l k 0 < bound

-- a version of the table, whose numbers fit their two bytes
pub record InTable (table : List Row) (r : Row) : Type 0 where
  pub known : layout_of table r.version ≡ Some r
  pub version : r.version < 65536
  pub limit : r.limit < 65536

-- the bytes of record i of a file
abbrev pub record_part : ℕ → List ℕ → ℕ → List ℕ
record_part width b i = take width (drop (width * i) (drop 7 b))

-- if f gives each record as many bytes as the version has, the file of these records is accepted
abbrev pub AcceptsWritten : Type 1
AcceptsWritten =
    (A : Type 0) (f : A → List ℕ) (d : A) (mark : List ℕ) (table : List Row) (r : Row) → length mark ≡ 3 → InTable table r
    → (rs : List A) → length rs ≤ r.limit → ((i : ℕ) → i < length rs → length (f (get_or rs i d)) ≡ r.width)
    → head_of mark table (file_of f mark r.version rs) ≡ head r (length rs)

-- if f gives each record the bytes that it has in an accepted file, the file of these records is that file
abbrev pub WritesAccepted : Type 1
WritesAccepted =
    (A : Type 0) (f : A → List ℕ) (d : A) (mark : List ℕ) (table : List Row) (r : Row) → length mark ≡ 3
    → (b : List ℕ) → Below 256 b → (rs : List A) → head_of mark table b ≡ head r (length rs)
    → ((i : ℕ) → i < length rs → f (get_or rs i d) ≡ record_part r.width b i)
    → file_of f mark r.version rs ≡ b

-- the bits of the floats of an accepted file are written as the bytes of that file
abbrev pub EncodesDecoded : Type 0
EncodesDecoded =
    (mark : List ℕ) (table : List Row) (r : Row) → length mark ≡ 3 → InTable table r → r.width ≡ 32
    → (b : List ℕ) (n : ℕ) (ps : List ℕ) → Below 256 b → decode mark table b ≡ accepted r.version n ps
    → encode mark r.version ps ≡ b

-- what is written of a list of records that are not too many is accepted, and reads as these records
abbrev pub DecodesEncoded : Type 0
DecodesEncoded =
    (mark : List ℕ) (table : List Row) (r : Row) → length mark ≡ 3 → InTable table r → r.width ≡ 32
    → (ps : List ℕ) → Below 4294967296 ps → record_count_of ps ≤ r.limit
    → decode mark table (encode mark r.version ps) ≡ accepted r.version (record_count_of ps) (whole_records ps)
