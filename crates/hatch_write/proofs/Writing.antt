-- What a writer answers and leaves, by the test that it made, and that its records are read back and rewritten.
use mathlib.Core.Path.{◌≡◌, refl, sym, ap, ◌∙◌}
use mathlib.Core.Bool.{Bool, true, false, cond}
use mathlib.Core.List.{List, [], ◌∷◌, ◌++◌, map}
use Prim.Native.Nat.{ℕ, zero, suc, ◌+◌, ◌*◌, ◌/◌, ◌^◌, ◌<◌, ◌≤◌}
use native.Mathlib.Omega.{arith}
use lib.Dec.{ltb, lit<}
use lib.ListN.{length, take, drop, length-map}
use lib.Seq.{sets, take_at}
use Rattle.std.specs.List.{All}
use Rattle.std.proofs.lemmas.List.Elements.{All-head, All-tail}
use borrow.Author.Tests.{le-ltb, ltb-false}
use Rattle.std.specs.Prelude.{Result, Ok, Err}
use Rattle.types.specs.declared.refusal.Refusal.{Refusal}
use Rattle.types.specs.declared.refusal.Refusal.TheVariants.{Room, Count}
use Rattle.lists.specs.Lent.{written, leaves}
use Rattle.lists.proofs.Fill.{sets_append}
use Rattle.lists.proofs.Lent.{no_count, same_count, sets_written}
use Rattle.hatch_format.specs.Format.{hsl, version_one_of, rows, layout_of, expected_length}
use Rattle.hatch_format.specs.Decode.{record_count_of, accepted, decode}
use Rattle.hatch_format.specs.declared.header.Row.{Row}
use Rattle.hatch_format.proofs.Accepted.{taken}
use Rattle.hatch_format.proofs.HatchLists.{accepts_only}
use Rattle.hatch_read.proofs.Reading.{into_plain, plain_into}
use Rattle.hatch_encode.specs.Encode.{word_bytes, joined, records_in, whole_records, head_bytes, file_of, record_bytes, encode}
use Rattle.hatch_write.specs.Write.{size_of, write_of}
use Rattle.hatch_write.specs.Saved.{ReadBack, Rewritten}
use Rattle.hatch_encode.proofs.Joined.{joined_twice, count_records, records_joined}
use Rattle.hatch_encode.specs.RoundTrip.{Below, InTable}
use Rattle.hatch_encode.proofs.RoundTrip.{length_encode, accepted_below, decodes_encoded, encodes_decoded}

-- ---- the answers

module _ (r : Row) (n room : ℕ) where
  pub has_room : n ≤ r.limit → expected_length r n ≤ room → Ok (expected_length r n) ≡ size_of r n room
  unfolding size_of
  has_room h g = rw (le-ltb r.limit n h, le-ltb room (expected_length r n) g)

  -- where there is a count, the records are few enough and have room
  pub counted : (m : ℕ) → size_of r n room ≡ Ok m → (n ≤ r.limit) × (expected_length r n ≤ room) × (expected_length r n ≡ m)
  unfolding size_of
  counted m e = go (ltb r.limit n) (ltb room (expected_length r n)) refl refl e
    where
      go : (s t : Bool) → ltb r.limit n ≡ s → ltb room (expected_length r n) ≡ t → cond s (Err Count) (cond t (Err Room) (Ok (expected_length r n))) ≡ Ok m
          → (n ≤ r.limit) × (expected_length r n ≤ room) × (expected_length r n ≡ m)
      go true t x y e = no_count Count m e
      go false true x y e = no_count Room m e
      go false false x y e = (ltb-false r.limit n x, ltb-false room (expected_length r n) y, same_count (expected_length r n) m e)

pub version_one : InTable rows version_one_of
unfolding layout_of
version_one = record { known = refl; version = lit< tt; limit = lit< tt }

-- ---- the file, from its parts

-- the records' words right behind the header
file_parts : (ps : List ℕ) → head_bytes hsl 1 (record_count_of ps) ++ joined word_bytes (whole_records ps) ≡ encode hsl 1 ps
unfolding encode file_of record_bytes
file_parts ps =
    ap (λ (n : ℕ). head_bytes hsl 1 n ++ joined word_bytes (whole_records ps)) (sym (count_records ps))
    ∙ ap (λ (t : List ℕ). head_bytes hsl 1 (length (records_in ps)) ++ t) (sym (joined_twice word_bytes (records_in ps) ∙ ap (joined word_bytes) (records_joined ps)))

-- where a header stands and the words follow it, the list has the file
file_stored : (ps l : List ℕ) (m : ℕ) → write_of ps l ≡ Ok m
    → sets (leaves {E = Refusal} (Ok m) (head_bytes hsl 1 (record_count_of ps)) l) 7 (joined word_bytes (whole_records ps)) ≡ leaves {E = Refusal} (Ok m) (encode hsl 1 ps) l
unfolding leaves
file_stored ps l m e =
    let head = head_bytes hsl 1 (record_count_of ps) in
    let words = joined word_bytes (whole_records ps) in
    let room = (counted version_one_of (record_count_of ps) (length l) m e).1 in
    ap (λ (s : List ℕ). sets s 7 words) (sym (sets_written head l (omega (arith, room))))
    ∙ sets_append head words l 0
    ∙ ap (sets l 0) (file_parts ps)
    ∙ sets_written (encode hsl 1 ps) l (omega (arith, length_encode hsl refl 1 ps, room))

-- the count m that `begin` answers for n records, and the list that it leaves: the words go behind the header
module _ (ps l : List ℕ) (n : ℕ) (count : n ≡ record_count_of ps) {m : ℕ} {l₁ : List ℕ} (told : Ok m ≡ size_of version_one_of n (length l))
    (left : l₁ ≡ leaves {E = Refusal} (Ok m) (head_bytes hsl 1 n) l) where
  pub words_fit : 7 + 4 * (8 * n) ≤ length l
  words_fit = omega (arith, (counted version_one_of n (length l) m (sym told)).1)

  pub words_stored : {l₂ : List ℕ} → l₂ ≡ sets l₁ 7 (joined word_bytes (take (8 * n) ps)) → l₂ ≡ leaves {E = Refusal} (Ok m) (encode hsl 1 ps) l
  words_stored put =
      put
      ∙ ap (λ (s : List ℕ). sets s 7 (joined word_bytes (take (8 * n) ps))) left
      ∙ ap (λ (k : ℕ). sets (leaves {E = Refusal} (Ok m) (head_bytes hsl 1 k) l) 7 (joined word_bytes (take (8 * k) ps))) count
      ∙ file_stored ps l m (ap (λ (k : ℕ). size_of version_one_of k (length l)) (sym count) ∙ sym told)

-- ---- read back and rewritten, of a call that answered r and left l': the records' bits are ps

module _ (ps l l' : List ℕ) (r : Result ℕ Refusal) (answers : r ≡ write_of ps l) (left : l' ≡ leaves r (encode hsl 1 ps) l) where
  -- the bytes counted are the file
  counted_file : (m : ℕ) → r ≡ Ok m → take m l' ≡ encode hsl 1 ps
  unfolding leaves written
  counted_file m e =
      let file = encode hsl 1 ps in
      let size = length_encode hsl refl 1 ps ∙ (counted version_one_of (record_count_of ps) (length l) m (sym answers ∙ e)).2 in
      ap (take m) (left ∙ ap (λ (a : Result ℕ Refusal). leaves a file l) e) ∙ take_at file (drop (length file) l) m size

  pub reads_back : {A : Type 0} (f : ℕ → A) (records : List A) → Below 4294967296 ps → record_count_of ps ≡ record_count_of records
      → map f (whole_records ps) ≡ whole_records records → ReadBack f records r l'
  reads_back f records small count same m room e fits =
      let few = (counted version_one_of (record_count_of ps) (length l) m (sym answers ∙ e)).0 in
      let said : decode hsl rows (take m l') ≡ accepted 1 (record_count_of records) (whole_records ps) =
      ap (decode hsl rows) (counted_file m e)
      ∙ decodes_encoded hsl rows version_one_of refl version_one refl ps small few
      ∙ ap (λ (n : ℕ). accepted 1 n (whole_records ps)) count in
      record { bits = whole_records ps; accepts = plain_into hsl rows (take m l') room 1 (record_count_of records) (whole_records ps) said fits; same = same }

  pub rewrites : (b : List ℕ) → Below 256 b → (v n : ℕ) → decode hsl rows b ≡ accepted v n ps → length b ≤ length l → (r ≡ Ok (length b)) × (l' ≡ written b l)
  unfolding leaves
  rewrites b small v n e fits =
      let t = taken hsl rows b v n ps e in
      let only = accepts_only hsl b refl (record { row = t.row; count = n }) t.is in
      let list = only.1 in
      let one : v ≡ 1 = sym t.version ∙ ap (λ (q : Row). q.version) only.0 in
      let file : encode hsl 1 ps ≡ b = encodes_decoded hsl rows version_one_of refl version_one refl b n ps small (e ∙ ap (λ (k : ℕ). accepted k n ps) one) in
      let size : expected_length version_one_of (record_count_of ps) ≡ length b = sym (length_encode hsl refl 1 ps) ∙ ap length file in
      let told : r ≡ Ok (length b) =
      answers ∙ sym (has_room version_one_of (record_count_of ps) (length l) (omega (arith, size, list.whole, list.few)) (omega (arith, size, fits))) ∙ ap Ok size in
      (told, left ∙ ap (λ (a : Result ℕ Refusal). leaves a (encode hsl 1 ps) l) told ∙ ap (λ (s : List ℕ). written s l) file)

-- ---- entries, by what is known of a value and of a pattern, and the two directions

pub count_mapped : {A : Type 0} (f : A → ℕ) (s : List A) → record_count_of (map f s) ≡ record_count_of s
count_mapped f s = ap (λ (k : ℕ). k / 8) (length-map s f)

module _ {A : Type 0} (Fits : A → Type 0) (Keeps : ℕ → Type 0) (of_bits : ℕ → A) (bits_of : A → ℕ) where
  bits_fit : ((x : A) → Fits x → bits_of x < 2 ^ 32) → (s : List A) → All Fits s → Below 4294967296 (map bits_of s)
  bits_fit below [] fit k = lit< tt
  bits_fit below (x ∷ s) fit zero = below x (All-head Fits x s fit)
  bits_fit below (x ∷ s) fit (suc k) = bits_fit below s (All-tail Fits x s fit) k

  entries_back : ((x : A) → Fits x → of_bits (bits_of x) ≡ x) → (k : ℕ) (s : List A) → All Fits s → map of_bits (take k (map bits_of s)) ≡ take k s
  entries_back kept zero s fit = refl
  entries_back kept (suc k) [] fit = refl
  entries_back kept (suc k) (x ∷ s) fit =
      ap (λ (y : A). y ∷ map of_bits (take k (map bits_of s))) (kept x (All-head Fits x s fit))
      ∙ ap (λ (t : List A). x ∷ t) (entries_back kept k s (All-tail Fits x s fit))

  patterns_back : ((p : ℕ) → p < 2 ^ 32 → Keeps p → bits_of (of_bits p) ≡ p) → (ps : List ℕ) → Below 4294967296 ps → All Keeps ps
      → map bits_of (map of_bits ps) ≡ ps
  patterns_back kept [] small fit = refl
  patterns_back kept (p ∷ ps) small fit =
      ap (λ (q : ℕ). q ∷ map bits_of (map of_bits ps)) (kept p (small 0) (All-head Keeps p ps fit))
      ∙ ap (λ (t : List ℕ). p ∷ t) (patterns_back kept ps (λ k. small (suc k)) (All-tail Keeps p ps fit))

  -- with the answer and the list as they should be, the records are read back, and rewritten
  pub saved : ((x : A) → Fits x → bits_of x < 2 ^ 32) → ((x : A) → Fits x → of_bits (bits_of x) ≡ x)
      → ((p : ℕ) → p < 2 ^ 32 → Keeps p → bits_of (of_bits p) ≡ p) → (s : List A) → All Fits s
      → (l l' : List ℕ) (a : Result ℕ Refusal) → a ≡ write_of s l → l' ≡ leaves a (encode hsl 1 (map bits_of s)) l
      → ReadBack of_bits s a l' × Rewritten of_bits Keeps s a l l'
  saved below kept pattern_kept s fit l l' a answers left =
      let ps = map bits_of s in
      let told : a ≡ write_of ps l = answers ∙ ap (λ (k : ℕ). size_of version_one_of k (length l)) (sym (count_mapped bits_of s)) in
      let again : map of_bits (whole_records ps) ≡ whole_records s =
      ap (λ (k : ℕ). map of_bits (take (8 * k) ps)) (count_mapped bits_of s) ∙ entries_back kept (8 * record_count_of s) s fit in (
        reads_back ps l l' a told left of_bits s (bits_fit below s fit) (count_mapped bits_of s) again,
        λ b small room v n qs read is keeps.
            let plain = into_plain hsl rows b room v n qs read in
            let back : map bits_of s ≡ qs =
            ap (map bits_of) is ∙ patterns_back pattern_kept qs (accepted_below hsl rows b v n qs small plain) keeps in
            rewrites ps l l' a told left b small v n (plain ∙ ap (accepted v n) (sym back)),
      )
