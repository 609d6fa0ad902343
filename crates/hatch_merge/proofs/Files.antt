-- The file of a list of records: made of their bytes or of their bits, and read again as these records.
use mathlib.Core.Path.{◌≡◌, refl, sym, ap, ◌∙◌}
use mathlib.Core.List.{List, [], ◌∷◌, ◌++◌, map}
use Prim.Native.Nat.{ℕ, zero, suc, ◌+◌, ◌*◌, ◌≤◌}
use native.Mathlib.Omega.{arith}
use lib.Dec.{lit<}
use lib.ListN.{length, length-map}
use Rattle.std.specs.List.{All}
use Rattle.std.proofs.lemmas.List.{take_all}
use Rattle.std.proofs.lemmas.List.Elements.{All-head, All-tail}
use Rattle.lists.specs.Places.{upto}
use Rattle.lists.proofs.Entries.{listed}
use Rattle.lists.proofs.Fill.{length_upto}
use Rattle.hatch_format.specs.Format.{hsl, version_one_of, rows}
use Rattle.hatch_format.specs.HatchList.{HatchList}
use Rattle.hatch_format.specs.Decode.{record_count_of, pattern_at_of, patterns_of, accepted, decode}
use Rattle.hatch_read.proofs.Reading.{plain_into, decoded_list}
use Rattle.hatch_encode.specs.Encode.{joined, record_in, records_in, whole_records, head_bytes, file_of, record_bytes, encode}
use Rattle.hatch_encode.proofs.Joined.{length_joined, part, count_records}
use Rattle.hatch_encode.proofs.RoundTrip.{length_encode, decodes_encoded}
use Rattle.hatch_write.proofs.Writing.{version_one}
use Rattle.hatch_merge.specs.Promise.{ReadsAs}
use Rattle.hatch_merge.specs.Parts.{flat, flat_file}
use Rattle.hatch_merge.proofs.Chunks.{Small}

-- a hatch list is read as the records of its bits
pub reads_list : (b : List ℕ) (n : ℕ) → HatchList hsl b n → ReadsAs b (records_in (patterns_of 32 b n))
reads_list b n list =
    let count : length (records_in (patterns_of 32 b n)) ≡ n = omega (arith, count_records (patterns_of 32 b n), length_upto (pattern_at_of 32 b) (8 * n)) in
    record {
      bits = patterns_of 32 b n;
      accepts =
          λ room fits.
          plain_into hsl rows b room 1 n (patterns_of 32 b n) (decoded_list b n list) (omega (arith, fits, count))
          ∙ ap (λ (k : ℕ). accepted 1 k (patterns_of 32 b n)) (sym count);
      same = refl;
    }

-- ---- from their bytes

joined_mapped : (f : List ℕ → List ℕ) (rs : List (List ℕ)) → flat (map f rs) ≡ joined f rs
unfolding joined
joined_mapped f [] = refl
joined_mapped f (r ∷ rs) = ap (λ (s : List ℕ). f r ++ s) (joined_mapped f rs)

pub file_mapped : (rs : List (List ℕ)) → flat_file (map record_bytes rs) ≡ file_of record_bytes hsl 1 rs
unfolding file_of
file_mapped rs =
    ap (λ (n : ℕ). head_bytes hsl 1 n ++ flat (map record_bytes rs)) (length-map rs record_bytes)
    ∙ ap (λ (s : List ℕ). head_bytes hsl 1 (length rs) ++ s) (joined_mapped record_bytes rs)

-- ---- from their bits

abbrev pub Eight : List ℕ → Type 0
Eight r = length r ≡ 8

small_append : (r s : List ℕ) → Small r → Small s → Small (r ++ s)
small_append [] s p q k = q k
small_append (x ∷ r) s p q zero = p zero
small_append (x ∷ r) s p q (suc k) = small_append r s (λ i. p (suc i)) q k

small_flat : (rs : List (List ℕ)) → All Small rs → Small (flat rs)
unfolding joined
small_flat [] all = λ k. lit< tt
small_flat (r ∷ rs) all = small_append r (flat rs) (All-head Small r rs all) (small_flat rs (All-tail Small r rs all))

module _ (rs : List (List ℕ)) (eight : All Eight rs) where
  count_flat : record_count_of (flat rs) ≡ length rs
  count_flat = omega (arith, length_joined (λ (r : List ℕ). r) 8 [] rs (λ i h. eight i [] h))

  records_flat : records_in (flat rs) ≡ rs
  records_flat =
      ap (upto (record_in (flat rs))) count_flat
      ∙ sym (listed [] (record_in (flat rs)) rs λ j h. sym (part (λ (r : List ℕ). r) 8 [] rs (λ i g. eight i [] g) j h))

  file_flat : file_of record_bytes hsl 1 rs ≡ encode hsl 1 (flat rs)
  unfolding encode
  file_flat = ap (file_of record_bytes hsl 1) (sym records_flat)

  pub length_file_of : length (file_of record_bytes hsl 1 rs) ≡ 7 + 32 * length rs
  length_file_of = ap length file_flat ∙ length_encode hsl refl 1 (flat rs) ∙ ap (λ (k : ℕ). 7 + 32 * k) count_flat

  -- it is read as these records, if they are not too many
  pub reads_file : All Small rs → length rs ≤ 2000 → ReadsAs (file_of record_bytes hsl 1 rs) rs
  reads_file small few =
      let bits = flat rs in
      let whole : whole_records (flat rs) ≡ flat rs =
      take_all (8 * record_count_of bits) bits (omega (arith, count_flat, length_joined (λ (r : List ℕ). r) 8 [] rs (λ i h. eight i [] h))) in
      let said : decode hsl rows (file_of record_bytes hsl 1 rs) ≡ accepted 1 (length rs) (flat rs) =
      ap (decode hsl rows) file_flat
      ∙ decodes_encoded hsl rows version_one_of refl version_one refl bits (small_flat rs small) (omega (arith, count_flat, few))
      ∙ ap (λ (k : ℕ). accepted 1 k (whole_records bits)) count_flat
      ∙ ap (accepted 1 (length rs)) whole in
      record {
        bits = bits;
        accepts = λ room fits. plain_into hsl rows (file_of record_bytes hsl 1 rs) room 1 (length rs) bits said fits;
        same = records_flat;
      }
