-- The records of an accepted file, as parts of its bytes: those of the bits of their floats.
use mathlib.Core.Path.{◌≡◌, refl, sym, ap, ◌∙◌, subst}
use mathlib.Core.Bool.{Bool, true, false}
use mathlib.Core.List.{List, [], ◌∷◌, map}
use Prim.Native.Nat.{ℕ, zero, suc, ◌+◌, ◌-◌, ◌*◌, ◌/◌, ◌%◌, ◌<◌}
use native.Mathlib.Nat.{mul-zero, mul-suc}
use native.Mathlib.Omega.{arith}
use lib.Dec.{lit<}
use lib.ListN.{length, get_or, take, drop, length-drop}
use lib.Seq.{drop-drop, length-take-le}
use Rattle.std.specs.List.{All}
use Rattle.std.specs.Simd.{first_chunks}
use Rattle.std.proofs.lemmas.List.{get_or_default}
use Rattle.std.proofs.lemmas.Slice.Eq.{bytes_eq-Decides}
use Rattle.std.proofs.lemmas.Bool.{false_from_ne_true, both_ways}
use Rattle.lists.proofs.Entries.{get_d_upto, mapped}
use Rattle.hatch_format.specs.Format.{hsl}
use Rattle.hatch_format.specs.HatchList.{HatchList}
use Rattle.hatch_format.specs.Decode.{record_count_of, patterns_of}
use Rattle.hatch_encode.specs.Encode.{word_bytes, joined, record_in, records_in, record_bytes}
use Rattle.hatch_encode.specs.RoundTrip.{Below, record_part}
use Rattle.hatch_encode.proofs.Joined.{count_records}
use Rattle.hatch_encode.proofs.Numbers.{below_take, below_drop}
use Rattle.hatch_encode.proofs.RoundTrip.{records_again, count_read}
use Rattle.hatch_merge.specs.Records.{same_bits}
use Rattle.hatch_merge.specs.Parts.{parts_of}

-- ---- chunks of a list

pub chunk_at : {A : Type 0} (n k i : ℕ) (l : List A) → i < k → get_or (first_chunks n k l) i [] ≡ take n (drop (n * i) l)
chunk_at n zero i l h = absurd (omega arith)
chunk_at n (suc k) zero l h = ap (λ (j : ℕ). take n (drop j l)) (sym (mul-zero n))
chunk_at n (suc k) (suc i) l h =
    let at : n * suc i ≡ n + n * i = omega (arith, mul-suc n i) in
    chunk_at n k i (drop n l) (omega arith) ∙ ap (take n) (drop-drop (n * i) n l) ∙ ap (λ (j : ℕ). take n (drop j l)) (sym at)

pub length_chunks : {A : Type 0} (n k : ℕ) (l : List A) → length (first_chunks n k l) ≡ k
length_chunks n zero l = refl
length_chunks n (suc k) l = let e = length_chunks n k (drop n l) in omega (arith, e)

-- records of 32 bytes
abbrev pub Wide : List ℕ → Type 0
Wide r = length r ≡ 32

pub each_wide : (rs : List (List ℕ)) → ((i : ℕ) → i < length rs → length (get_or rs i []) ≡ 32) → All Wide rs
each_wide rs wide i d h = ap length (get_or_default rs i d [] h) ∙ wide i h

-- ---- numbers of 32 bits and their bytes

abbrev pub Small : List ℕ → Type 0
Small r = Below 4294967296 r

words_same : (r s : List ℕ) → Small r → Small s → joined word_bytes r ≡ joined word_bytes s → r ≡ s
unfolding joined
words_same [] [] p q e = refl
words_same [] (y ∷ s) p q e = absurd (let z : ◌≡◌ {A = ℕ} 0 1 = cc in omega arith)
words_same (x ∷ r) [] p q e = absurd (let z : ◌≡◌ {A = ℕ} 0 1 = cc in omega arith)
words_same (x ∷ r) (y ∷ s) p q e =
    let a : x % 256 ≡ y % 256 = cc in
    let b : x / 256 % 256 ≡ y / 256 % 256 = cc in
    let c : x / 256 / 256 % 256 ≡ y / 256 / 256 % 256 = cc in
    let d : x / 256 / 256 / 256 % 256 ≡ y / 256 / 256 / 256 % 256 = cc in
    let rest : joined word_bytes r ≡ joined word_bytes s = cc in
    let xs : x < 4294967296 = p 0 in
    let ys : y < 4294967296 = q 0 in
    let one : x ≡ y = omega (arith, a, b, c, d, xs, ys) in
    ap (λ (n : ℕ). n ∷ r) one ∙ ap (λ (t : List ℕ). y ∷ t) (words_same r s (λ k. p (suc k)) (λ k. q (suc k)) rest)

-- the test of the bytes is the test of the bits
pub same_by_bytes : (r s : List ℕ) → Small r → Small s → same_bits (record_bytes r) (record_bytes s) ≡ same_bits r s
unfolding record_bytes
same_by_bytes r s p q = go (same_bits r s) refl
  where
    go : (t : Bool) → same_bits r s ≡ t → same_bits (joined word_bytes r) (joined word_bytes s) ≡ t
    go true e = (bytes_eq-Decides (joined word_bytes r) (joined word_bytes s)).1 (ap (joined word_bytes) ((bytes_eq-Decides r s).0 e))
    go false e =
        false_from_ne_true _
        λ t. both_ways (same_bits r s) e ((bytes_eq-Decides r s).1 (words_same r s p q ((bytes_eq-Decides (joined word_bytes r) (joined word_bytes s)).0 t)))

-- what holds of each record of a list of patterns
pub each_record : (P : List ℕ → Type 0) (ps : List ℕ) → ((i : ℕ) → i < record_count_of ps → P (record_in ps i)) → All P (records_in ps)
each_record P ps holds i d h =
    let few : i < record_count_of ps = omega (arith, h, count_records ps) in subst P (sym (get_d_upto (record_in ps) d (record_count_of ps) i few)) (holds i few)

pub records_small : (ps : List ℕ) → Small ps → All Small (records_in ps)
records_small ps small = each_record Small ps λ i h. below_take 4294967296 8 (drop (8 * i) ps) (lit< tt) (below_drop 4294967296 (8 * i) ps small)

-- ---- the records of a file of n records, as chunks of its bytes

module _ (b : List ℕ) (n : ℕ) (list : HatchList hsl b n) where
  chunks : (length b - 7) / 32 ≡ n
  chunks = omega (arith, list.whole)

  pub count_parts : length (parts_of b) ≡ n
  count_parts = length_chunks 32 ((length b - 7) / 32) (drop 7 b) ∙ chunks

  part_is : (i : ℕ) → i < n → get_or (parts_of b) i [] ≡ record_part 32 b i
  part_is i h = chunk_at 32 ((length b - 7) / 32) i (drop 7 b) (omega (arith, chunks, h))

  pub wide_parts : All Wide (parts_of b)
  wide_parts =
      each_wide (parts_of b)
      λ i h.
      let few : i < n = omega (arith, h, count_parts) in
      ap length (part_is i few) ∙ length-take-le 32 (drop (32 * i) (drop 7 b)) (omega (arith, length-drop (32 * i) (drop 7 b), length-drop 7 b, list.whole, few))

  -- they are the bytes of its records
  pub parts_are : Below 256 b → parts_of b ≡ map record_bytes (records_in (patterns_of 32 b n))
  parts_are small =
      let count : length (records_in (patterns_of 32 b n)) ≡ n = count_records (patterns_of 32 b n) ∙ count_read b small n list.whole in
      mapped record_bytes [] [] (records_in (patterns_of 32 b n)) (parts_of b) (count_parts ∙ sym count)
      λ i h. part_is i (omega (arith, h, count)) ∙ sym (records_again b small n list.whole i h)
