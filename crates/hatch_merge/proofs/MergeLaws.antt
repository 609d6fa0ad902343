-- What a merge of two files answers, by what was found of their headers, and what is promised of it.
use mathlib.Core.Path.{◌≡◌, refl, sym, ap, ◌∙◌, subst}
use mathlib.Core.List.{List, map, append-nil}
use Prim.Native.Nat.{ℕ, ◌+◌, ◌*◌}
use native.Mathlib.Omega.{arith}
use lib.ListN.{length, take, drop, length-map}
use lib.Seq.{take_at}
use Rattle.std.specs.Prelude.{Result, Ok, Err}
use Rattle.std.specs.List.{All}
use Rattle.std.proofs.lemmas.List.Elements.{All-append}
use Rattle.std.proofs.lemmas.Slice.Eq.{bytes_eq-Decides}
use Rattle.types.specs.declared.refusal.Refusal.{Refusal}
use Rattle.types.specs.declared.refusal.RefusalAt.{RefusalAt}
use Rattle.lists.specs.Places.{upto}
use Rattle.lists.specs.Lent.{written, leaves}
use Rattle.lists.proofs.Fill.{length_upto}
use Rattle.lists.proofs.Lent.{no_count, same_count}
use Rattle.hatch_format.specs.Format.{hsl, version_one_of, rows, head_of}
use Rattle.hatch_format.specs.HatchList.{HatchList}
use Rattle.hatch_format.specs.Decode.{Answer, pattern_at_of, patterns_of, accepted, body_of, decode}
use Rattle.hatch_format.specs.declared.header.Head.{Head}
use Rattle.hatch_format.proofs.HatchLists.{accepts_only}
use Rattle.hatch_read.proofs.Reading.{decoded_list}
use Rattle.hatch_encode.specs.Encode.{records_in, file_of, record_bytes, encode}
use Rattle.hatch_encode.specs.RoundTrip.{Below}
use Rattle.hatch_encode.proofs.Joined.{length_record, count_records}
use Rattle.hatch_encode.proofs.RoundTrip.{accepted_below, encodes_decoded}
use Rattle.hatch_write.specs.Write.{size_of}
use Rattle.hatch_write.proofs.Writing.{counted, has_room, version_one}
use Rattle.hatch_merge.specs.Merged.{added, merged}
use Rattle.hatch_merge.specs.Records.{same_bits}
use Rattle.hatch_merge.specs.Refusal.{refusal_in, of_merged}
use Rattle.hatch_merge.specs.Merge.{in_merged, answer_to, file_from, merge_of, merged_file}
use Rattle.hatch_merge.specs.Promise.{ReadsAs, ReadsAsMerge, MergesRecords, EmptySecond}
use Rattle.hatch_merge.specs.Parts.{flat_file, parts_of, head_in_of}
use Rattle.hatch_merge.specs.declared.refusal.MergeList.{MergeList}
use Rattle.hatch_merge.specs.declared.refusal.MergeList.TheVariants.{First, Second}
use Rattle.hatch_merge.specs.declared.refusal.RefusalIn.{RefusalIn}
use Rattle.hatch_merge.proofs.Added.{merged_mapped, added_all}
use Rattle.hatch_merge.proofs.Merges.{merges}
use Rattle.hatch_merge.proofs.Chunks.{Small, same_by_bytes, each_record, records_small, parts_are}
use Rattle.hatch_merge.proofs.Files.{Eight, file_mapped, length_file_of, reads_file, reads_list}

-- ---- the header of one list

pub in_ok : (list : MergeList) (r : Result Head RefusalAt) {h : Head} → Ok h ≡ head_in_of list r → r ≡ Ok h
in_ok list (Ok g) {h} e = let same : g ≡ h = cc in ap Ok same
in_ok list (Err at) e = absurd (let z : ◌≡◌ {A = ℕ} 0 1 = cc in omega arith)

-- what was refused
pub record Refused (list : MergeList) (r : Result Head RefusalAt) (told : RefusalIn) : Type 0 where
  pub at : RefusalAt
  pub is : r ≡ Err at
  pub told_is : told ≡ refusal_in list at

pub in_err : (list : MergeList) (r : Result Head RefusalAt) {told : RefusalIn} → Err told ≡ head_in_of list r → Refused list r told
in_err list (Ok g) e = absurd (let z : ◌≡◌ {A = ℕ} 0 1 = cc in omega arith)
in_err list (Err at) {told} e = record { at = at; is = refl; told_is = cc }

-- a list whose header is accepted is a hatch list
pub listed_file : (b : List ℕ) (h : Head) → head_of hsl rows b ≡ Ok h → HatchList hsl b h.count
listed_file b h is = (accepts_only hsl b refl h is).1

-- ---- the records of a hatch list

module _ (b : List ℕ) (small : Below 256 b) (n : ℕ) (list : HatchList hsl b n) where
  pub small_records : All Small (records_in (patterns_of 32 b n))
  small_records = records_small (patterns_of 32 b n) (accepted_below hsl rows b 1 n (patterns_of 32 b n) small (decoded_list b n list))

  pub eight_records : All Eight (records_in (patterns_of 32 b n))
  eight_records = each_record Eight (patterns_of 32 b n) (length_record (patterns_of 32 b n))

merged_all : (P : List ℕ → Type 0) (xs ys : List (List ℕ)) → All P xs → All P ys → All P (merged same_bits xs ys)
merged_all P xs ys p q = All-append P xs (added same_bits xs ys) p (added_all same_bits P xs ys q)

-- ---- two hatch lists, of n and of k records

module _ (a b : List ℕ) (sa : Below 256 a) (sb : Below 256 b) (n k : ℕ) (la : HatchList hsl a n) (lb : HatchList hsl b k) where
  abbrev ms : List (List ℕ)
  ms = merged same_bits (records_in (patterns_of 32 a n)) (records_in (patterns_of 32 b k))

  answer_of_lists : (l : List ℕ) → merge_of a b l ≡ in_merged (size_of version_one_of (length ms) (length l))
  unfolding answer_to
  answer_of_lists l =
      ap (λ (x : Answer). answer_to (length l) x (decode hsl rows b)) (decoded_list a n la)
      ∙ ap (answer_to (length l) (accepted 1 n (patterns_of 32 a n))) (decoded_list b k lb)

  file_of_lists : merged_file a b ≡ file_of record_bytes hsl 1 ms
  unfolding file_from
  file_of_lists =
      ap (λ (x : Answer). file_from x (decode hsl rows b)) (decoded_list a n la)
      ∙ ap (file_from (accepted 1 n (patterns_of 32 a n))) (decoded_list b k lb)

  -- from the records as bytes
  module _ (ps qs : List (List ℕ)) (pa : ps ≡ parts_of a) (qb : qs ≡ parts_of b) where
    parts_merged : merged same_bits ps qs ≡ map record_bytes ms
    parts_merged =
        let xs = records_in (patterns_of 32 a n) in
        let ys = records_in (patterns_of 32 b k) in
        ap (λ (s : List (List ℕ)). merged same_bits s qs) (pa ∙ parts_are a n la sa)
        ∙ ap (merged same_bits (map record_bytes xs)) (qb ∙ parts_are b k lb sb)
        ∙ merged_mapped record_bytes same_bits same_bits Small same_by_bytes xs ys (small_records a sa n la) (small_records b sb k lb)

    pub answer_is : (l : List ℕ) → in_merged (size_of version_one_of (length (merged same_bits ps qs)) (length l)) ≡ merge_of a b l
    answer_is l =
        ap (λ (m : ℕ). in_merged (size_of version_one_of m (length l))) (ap length parts_merged ∙ length-map ms record_bytes) ∙ sym (answer_of_lists l)

    pub file_is : flat_file (merged same_bits ps qs) ≡ merged_file a b
    file_is = ap flat_file parts_merged ∙ file_mapped ms ∙ sym file_of_lists

  -- what is promised of a call that answered r and left l'
  module _ (l l' : List ℕ) (r : Result ℕ RefusalIn) (answers : r ≡ merge_of a b l) (left : l' ≡ leaves r (merged_file a b) l) where
    told : (size : ℕ) → r ≡ Ok size → size_of version_one_of (length ms) (length l) ≡ Ok size
    told size ok = go (size_of version_one_of (length ms) (length l)) (sym (answer_of_lists l) ∙ sym answers ∙ ok)
      where
        go : (q : Result ℕ Refusal) → in_merged q ≡ Ok size → q ≡ Ok size
        go (Ok m) e = ap Ok (same_count m size e)
        go (Err refusal) e = no_count (of_merged refusal) size e

    -- the bytes counted are the file
    file_there : (size : ℕ) → r ≡ Ok size → take size l' ≡ file_of record_bytes hsl 1 ms
    unfolding leaves written
    file_there size ok =
        let sized = counted version_one_of (length ms) (length l) size (told size ok) in
        let file = file_of record_bytes hsl 1 ms in
        let eight = merged_all Eight (records_in (patterns_of 32 a n)) (records_in (patterns_of 32 b k)) (eight_records a sa n la) (eight_records b sb k lb) in
        ap (take size) (left ∙ ap (λ (s : List ℕ). leaves r s l) file_of_lists ∙ ap (λ (x : Result ℕ RefusalIn). leaves x file l) ok)
        ∙ take_at file (drop (length file) l) size (length_file_of ms eight ∙ sized.2)

    reads : (size : ℕ) → r ≡ Ok size → ReadsAsMerge a b (take size l')
    reads size ok =
        let xs = records_in (patterns_of 32 a n) in
        let ys = records_in (patterns_of 32 b k) in
        let few = (counted version_one_of (length ms) (length l) size (told size ok)).0 in
        let small = merged_all Small xs ys (small_records a sa n la) (small_records b sb k lb) in
        let eight = merged_all Eight xs ys (eight_records a sa n la) (eight_records b sb k lb) in
        record {
          firsts = xs;
          seconds = ys;
          records = ms;
          reads_first = reads_list a n la;
          reads_second = reads_list b k lb;
          reads_merged = subst (λ (f : List ℕ). ReadsAs f ms) (sym (file_there size ok)) (reads_file ms eight small few);
          merges = merges (List ℕ) same_bits bytes_eq-Decides xs ys;
        }

-- ---- a refused list

module _ (a b l : List ℕ) where
  pub first_refused : {told : RefusalIn} → Refused First (head_of hsl rows a) told → Err told ≡ merge_of a b l
  unfolding answer_to decode body_of
  first_refused {told} r = ap Err r.told_is ∙ sym (ap (λ (x : Result Head RefusalAt). answer_to (length l) (body_of x a) (decode hsl rows b)) r.is)

  pub second_refused : (h : Head) → head_of hsl rows a ≡ Ok h → {told : RefusalIn} → Refused Second (head_of hsl rows b) told → Err told ≡ merge_of a b l
  unfolding answer_to decode body_of
  second_refused h is {told} r =
      ap Err r.told_is
      ∙ sym (ap (λ (x : Result Head RefusalAt). answer_to (length l) (body_of x a) (decode hsl rows b)) is
      ∙ ap (λ (x : Result Head RefusalAt). answer_to (length l) (body_of (Ok h) a) (body_of x b)) r.is)

-- ---- the promises, of a call that answered r and left l'

-- where there is a count, both are hatch lists
pub record BothListed (a b : List ℕ) : Type 0 where
  pub n : ℕ
  pub k : ℕ
  pub first : HatchList hsl a n
  pub second : HatchList hsl b k

both_listed : (a b l : List ℕ) (size : ℕ) → merge_of a b l ≡ Ok size → BothListed a b
both_listed a b l size e = go (head_of hsl rows a) (head_of hsl rows b) refl refl
  where
    go : (x y : Result Head RefusalAt) → head_of hsl rows a ≡ x → head_of hsl rows b ≡ y → BothListed a b
    go (Err at) y s t = no_count (refusal_in First at) size (first_refused a b l (record { at = at; is = s; told_is = refl }) ∙ e)
    go (Ok h) (Err at) s t = no_count (refusal_in Second at) size (second_refused a b l h s (record { at = at; is = t; told_is = refl }) ∙ e)
    go (Ok h) (Ok g) s t = record { n = h.count; k = g.count; first = listed_file a h s; second = listed_file b g t }

module _ (a b : List ℕ) (sa : Below 256 a) (sb : Below 256 b) (l l' : List ℕ) (r : Result ℕ RefusalIn)
    (answers : r ≡ merge_of a b l) (left : l' ≡ leaves r (merged_file a b) l) where
  pub merges_records : MergesRecords a b r l'
  merges_records size ok =
      let both = both_listed a b l size (sym answers ∙ ok) in
      reads a b sa sb both.n both.k both.first both.second l l' r answers left size ok

  pub empty_second : EmptySecond a b r l l'
  unfolding leaves added encode upto
  empty_second n la lb room =
      let xs = records_in (patterns_of 32 a n) in
      let ms = merged same_bits xs (records_in (patterns_of 32 b 0)) in
      let kept : merged same_bits (records_in (patterns_of 32 a n)) (records_in (patterns_of 32 b 0)) ≡ records_in (patterns_of 32 a n) = append-nil xs in
      let count : length (merged same_bits (records_in (patterns_of 32 a n)) (records_in (patterns_of 32 b 0))) ≡ n =
      ap length kept ∙ count_records (patterns_of 32 a n) ∙ omega (arith, length_upto (pattern_at_of 32 a) (8 * n)) in
      let file : file_of record_bytes hsl 1 (merged same_bits (records_in (patterns_of 32 a n)) (records_in (patterns_of 32 b 0))) ≡ a =
      ap (file_of record_bytes hsl 1) kept ∙ encodes_decoded hsl rows version_one_of refl version_one refl a n (patterns_of 32 a n) sa (decoded_list a n la) in
      let size : 7 + 32 * length (merged same_bits (records_in (patterns_of 32 a n)) (records_in (patterns_of 32 b 0))) ≡ length a = omega (arith, count, la.whole) in
      let sized = has_room version_one_of (length ms) (length l) (omega (arith, count, la.few)) (omega (arith, size, room)) in
      let ok : r ≡ Ok (length a) = answers ∙ answer_of_lists a b sa sb n 0 la lb l ∙ ap in_merged (sym sized) ∙ ap Ok size in
      (ok, left ∙ ap (λ (x : Result ℕ RefusalIn). leaves x (merged_file a b) l) ok ∙ ap (λ (s : List ℕ). written s l) (file_of_lists a b sa sb n 0 la lb ∙ file))
