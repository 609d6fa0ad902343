-- What is written reads as what it was written from, and what was read is written as it stood: every bit, those of a NaN too. For any mark of
-- three bytes and any table with a version whose records are eight floats.
use mathlib.Core.Path.{◌≡◌, refl, sym, ap, ◌∙◌, subst}
use mathlib.Core.List.{List, []}
use Prim.Native.Nat.{ℕ, ◌+◌, ◌*◌, ◌/◌, ◌%◌, ◌<◌, ◌≤◌}
use native.Mathlib.Omega.{arith}
use native.Mathlib.Decide.{dec_le}
use lib.Dec.{lit<}
use lib.ListN.{length, get_or, take, drop, length-take, get_or-eq_default}
use lib.Seq.{get_or-drop, get_or-take, drop-drop, take_all, length-take-le}
use Rattle.lists.specs.Places.{upto}
use Rattle.lists.proofs.Entries.{get_d_upto, listed}
use Rattle.lists.proofs.Fill.{length_upto}
use Rattle.hatch_format.specs.Bytes.{half_at, word_from}
use Rattle.hatch_format.specs.Format.{layout_of, record_place, head, head_of}
use Rattle.hatch_format.specs.Decode.{record_count_of, pattern_at_of, patterns_of, accepted, body_of, decode}
use Rattle.hatch_format.specs.declared.header.Row.{Row}
use Rattle.hatch_format.specs.declared.header.Head.{Head}
use Rattle.std.specs.Prelude.{Some, Result}
use Rattle.types.specs.declared.refusal.RefusalAt.{RefusalAt}
use Rattle.hatch_format.proofs.Table.{found_version}
use Rattle.hatch_format.proofs.Accepted.{accepted_file, taken}
use Rattle.hatch_encode.specs.Encode.{word_bytes, joined, record_in, records_in, whole_records, file_of, record_bytes, encode}
use Rattle.hatch_encode.specs.RoundTrip.{Below, record_part, EncodesDecoded, DecodesEncoded}
use Rattle.hatch_encode.proofs.Joined.{part_of_front, Wide, length_joined, part, parts, count_records, record_is, length_record}
use Rattle.hatch_encode.proofs.Numbers.{word_is, word_bytes_lem}
use Rattle.hatch_encode.proofs.Files.{body, length_file, accepts_written, writes_accepted}

-- ---- the records of a file, as parts of its bytes

-- word j of record i
word_part : (width : ℕ) (b : List ℕ) (i j : ℕ) → 4 * j + 4 ≤ width
    → take 4 (drop (4 * j) (record_part width b i)) ≡ take 4 (drop (record_place width i + 4 * j) b)
word_part width b i j h =
    part_of_front (4 * j) 4 width (drop (width * i) (drop 7 b)) h
    ∙ ap (take 4) (ap (drop (4 * j)) (drop-drop (width * i) 7 b) ∙ drop-drop (4 * j) (record_place width i) b)

-- ---- records in memory

module _ (ps : List ℕ) where
  entry : (i j : ℕ) → j < 8 → get_or (record_in ps i) j 0 ≡ get_or ps (8 * i + j) 0
  entry i j h = get_or-take 8 (drop (8 * i) ps) j 0 h ∙ get_or-drop (8 * i) ps j 0

  words_wide : (r : List ℕ) → Wide word_bytes 4 0 r
  words_wide r i h = refl

  length_bytes : (r : List ℕ) → length r ≡ 8 → length (record_bytes r) ≡ 32
  unfolding record_bytes
  length_bytes r e = omega (arith, length_joined word_bytes 4 0 r (words_wide r), e)

  records_wide : Wide record_bytes 32 [] (records_in ps)
  records_wide i h =
      let few : i < record_count_of ps = omega (arith, count_records ps) in
      ap (λ (r : List ℕ). length (record_bytes r)) (record_is ps i few) ∙ length_bytes (record_in ps i) (length_record ps i few)

  -- word j of record i, in the bytes of the records
  word_written : (i j : ℕ) → i < record_count_of ps → j < 8
      → take 4 (drop (4 * j) (take 32 (drop (32 * i) (joined record_bytes (records_in ps))))) ≡ word_bytes (get_or ps (8 * i + j) 0)
  unfolding record_bytes
  word_written i j h g =
      ap (λ (s : List ℕ). take 4 (drop (4 * j) s)) (part record_bytes 32 [] (records_in ps) records_wide i (omega (arith, count_records ps)) ∙ ap record_bytes (record_is ps i h))
      ∙ part word_bytes 4 0 (record_in ps i) (words_wide (record_in ps i)) j (omega (arith, length_record ps i h))
      ∙ ap word_bytes (entry i j g)

module _ (mark : List ℕ) (three : length mark ≡ 3) (version : ℕ) where
  -- ---- written, and read

  module _ (ps : List ℕ) where
    abbrev file : List ℕ
    file = encode mark version ps

    pub length_encode : length file ≡ 7 + 32 * record_count_of ps
    unfolding encode
    length_encode = length_file record_bytes mark three version (records_in ps) 32 [] (records_wide ps) ∙ ap (λ (n : ℕ). 7 + 32 * n) (count_records ps)

    pattern_written : Below 4294967296 ps → (k : ℕ) → k < 8 * record_count_of ps → pattern_at_of 32 file k ≡ get_or ps k 0
    unfolding encode
    pattern_written small k h =
        let i = k / 8 in
        let j = k % 8 in
        let at : 8 * (k / 8) + k % 8 ≡ k = omega arith in
        word_is file (record_place 32 i + 4 * j) (get_or ps k 0) (small k)
        (sym (word_part 32 file i j (omega arith))
        ∙ ap (λ (s : List ℕ). take 4 (drop (4 * j) (take 32 (drop (32 * i) s)))) (body record_bytes mark three version (records_in ps))
        ∙ word_written ps i j (omega arith) (omega arith)
        ∙ ap (λ (q : ℕ). word_bytes (get_or ps q 0)) at)

    patterns_written : Below 4294967296 ps → patterns_of 32 file (record_count_of ps) ≡ whole_records ps
    patterns_written small =
        let n = record_count_of ps in
        let size : length (whole_records ps) ≡ 8 * n = length-take-le (8 * n) ps (omega arith) in
        sym
        (listed 0 (pattern_at_of 32 file) (whole_records ps)
        (λ k h.
        let inside : k < 8 * n = omega (arith, size) in
        get_or-take (8 * n) ps k 0 inside ∙ sym (pattern_written small k inside))
        ∙ ap (upto (pattern_at_of 32 file)) size)

-- ---- read, and written again

module _ (b : List ℕ) (small : Below 256 b) (n : ℕ) (whole : length b ≡ 7 + 32 * n) where
  abbrev pub read : List ℕ
  read = patterns_of 32 b n

  length_read : length read ≡ 8 * n
  length_read = length_upto (pattern_at_of 32 b) (8 * n)

  word_again : (i j : ℕ) → i < n → j < 8 → word_bytes (get_or (record_in read i) j 0) ≡ take 4 (drop (4 * j) (record_part 32 b i))
  word_again i j h g =
      let inside : 8 * i + j < 8 * n = omega arith in
      let d : (8 * i + j) / 8 ≡ i = omega arith in
      let m : (8 * i + j) % 8 ≡ j = omega arith in
      ap word_bytes
      (entry read i j g
      ∙ get_d_upto (pattern_at_of 32 b) 0 (8 * n) (8 * i + j) inside
      ∙ ap (λ (q : ℕ). word_from b (record_place 32 q) ((8 * i + j) % 8)) d
      ∙ ap (word_from b (record_place 32 i)) m)
      ∙ word_bytes_lem b (record_place 32 i + 4 * j) small (omega (arith, whole))
      ∙ sym (word_part 32 b i j (omega arith))

  record_again : (i : ℕ) → i < n → record_bytes (record_in read i) ≡ record_part 32 b i
  unfolding record_bytes
  record_again i h =
      let eight : length (record_in read i) ≡ 8 = length_record read i (omega (arith, length_read)) in
      parts word_bytes 4 0 (record_in read i) (record_part 32 b i) (λ j g. word_again i j h (omega (arith, eight)))
      ∙ ap (λ (k : ℕ). take (4 * k) (record_part 32 b i)) eight
      ∙ take_all 32 (record_part 32 b i) (omega (arith, length-take 32 (drop (32 * i) (drop 7 b))))

  pub count_read : record_count_of read ≡ n
  count_read = omega (arith, length_read)

  pub records_again : (i : ℕ) → i < length (records_in read) → record_bytes (get_or (records_in read) i []) ≡ record_part 32 b i
  records_again i h =
      let few : i < record_count_of read = omega (arith, count_records read) in
      ap record_bytes (record_is read i few) ∙ record_again i (omega (arith, count_read))

-- ---- the bits of a file's floats, 32 each

patterns_below : (width n : ℕ) (b : List ℕ) → Below 256 b → Below 4294967296 (patterns_of width b n)
patterns_below width n b small k = elim (dec_le (8 * n) k) [
  | yes a ↦ rw (get_or-eq_default (patterns_of width b n) 0 {n = k} (omega (arith, length_upto (pattern_at_of width b) (8 * n)))) (lit< tt)
  | no a ↦
      let at = record_place width (k / 8) + 4 * (k % 8) in
      omega (arith, get_d_upto (pattern_at_of width b) 0 (8 * n) k (omega arith), small at, small (at + 1), small (at + 2), small (at + 3))
]

pub accepted_below : (mark : List ℕ) (table : List Row) (b : List ℕ) (v n : ℕ) (ps : List ℕ) → Below 256 b → decode mark table b ≡ accepted v n ps
    → Below 4294967296 ps
accepted_below mark table b v n ps small e =
    let t = taken mark table b v n ps e in
    subst (Below 4294967296) t.patterns (patterns_below t.row.width n b small)

-- ---- written and read, read and written

pub decodes_encoded : DecodesEncoded
unfolding decode body_of encode
decodes_encoded mark table r three is wide ps small few =
    let v = r.version in
    let b = file_of record_bytes mark v (records_in ps) in
    let n = record_count_of ps in
    let rs = records_in ps in
    let count = count_records ps in
    ap (λ (h : Result Head RefusalAt). body_of h b) (accepts_written (List ℕ) record_bytes [] mark table r three is rs (omega (arith, count, few)) (λ i h. records_wide ps i h ∙ sym wide))
    ∙ ap (λ (k : ℕ). accepted v k (patterns_of r.width b k)) count
    ∙ ap (λ (w : ℕ). accepted v n (patterns_of w b n)) wide
    ∙ ap (accepted v n) (patterns_written mark three v ps small)

pub encodes_decoded : EncodesDecoded
unfolding encode
encodes_decoded mark table r three is wide b n ps small e =
    let t = taken mark table b r.version n ps e in
    let f = accepted_file mark table b t.row n t.is in
    -- the row of the file's version is r
    let version : half_at b 3 ≡ r.version = sym (found_version table (half_at b 3) t.row f.row) ∙ t.version in
    let same = same_row t.row r (sym f.row ∙ ap (layout_of table) version ∙ is.known) in
    let width : t.row.width ≡ 32 = ap (λ (q : Row). q.width) same ∙ wide in
    let whole : length b ≡ 7 + 32 * n = f.whole ∙ ap (λ (w : ℕ). 7 + w * n) width in
    let read : patterns_of 32 b n ≡ ps = ap (λ (w : ℕ). patterns_of w b n) (sym width) ∙ t.patterns in
    let count : length (records_in (patterns_of 32 b n)) ≡ n = count_records (patterns_of 32 b n) ∙ count_read b small n whole in
    let begins : head_of mark table b ≡ head r (length (records_in (patterns_of 32 b n))) =
    t.is ∙ ap (λ (q : Row). head q n) same ∙ ap (head r) (sym count) in
    ap (λ (s : List ℕ). file_of record_bytes mark r.version (records_in s)) (sym read)
    ∙ writes_accepted (List ℕ) record_bytes [] mark table r three b small (records_in (patterns_of 32 b n)) begins
    (λ i h. records_again b small n whole i h ∙ ap (λ (w : ℕ). record_part w b i) (sym wide))
  where
    same_row : (q r : Row) → Some q ≡ Some r → q ≡ r
    same_row q r e = cc
