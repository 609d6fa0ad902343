-- The records of an accepted file, read one at a time.
use mathlib.Core.Path.{◌≡◌, sym, ap, ◌∙◌}
use mathlib.Core.List.{List, ◌++◌, map}
use Prim.Native.Nat.{ℕ, ◌+◌, ◌-◌, ◌*◌, ◌/◌, ◌%◌, ◌<◌, ◌≤◌}
use native.Mathlib.Omega.{arith}
use native.Mathlib.Nat.{mul-le-mul_left, mul-add, mul-one, mul-zero}
use native.Mathlib.Decide.{dec_le}
use lib.ListN.{length, get_or, take, drop, get_or-append, length-append, length-drop}
use lib.Seq.{drop-append-add, drop-drop}
use Rattle.std.proofs.lemmas.List.{get_or-drop, get_or-take, take_all}
use Rattle.std.specs.Prelude.{Some}
use borrow.Author.Tests.{le-ltb}
use Rattle.lists.specs.Places.{upto}
use Rattle.lists.proofs.Entries.{get_d_upto, get_d_mapped, upto_same}
use Rattle.lists.proofs.Fill.{length_upto}
use Rattle.hatch_format.specs.Bytes.{half_at, word_from}
use Rattle.hatch_format.specs.Format.{rows, record_place, head, head_of}
use Rattle.hatch_format.specs.Decode.{pattern_at_of, patterns_of, record_words_of, record_bits_of, Holds}
use Rattle.hatch_format.specs.declared.header.Row.{Row}
use Rattle.hatch_format.proofs.Table.{Fine, fine, found}
use Rattle.hatch_format.proofs.Accepted.{accepted_file}

-- an accepted file is whole, whatever its mark
pub held : (mark b : List ℕ) (r : Row) (n : ℕ) → head_of mark rows b ≡ head r n → Holds r.width n b
held mark b r n e =
    let f = accepted_file mark rows b r n e in
    record { whole = f.whole; wide = (found Fine rows (half_at b 3) r fine f.row).0.wide }

-- float j of record i
pub pattern_of_record : (width : ℕ) (b : List ℕ) (i j : ℕ) → j < 8 → pattern_at_of width b (8 * i + j) ≡ word_from b (record_place width i) j
pattern_of_record width b i j k =
    let d : (8 * i + j) / 8 ≡ i = omega arith in
    let m : (8 * i + j) % 8 ≡ j = omega arith in
    ap (λ (x : ℕ). word_from b (record_place width x) ((8 * i + j) % 8)) d ∙ ap (word_from b (record_place width i)) m

-- the same, read through f, in the list of the file
module _ (width n : ℕ) (b : List ℕ) (i : ℕ) (g : i < n) where
  pub file_entry : {A : Type 0} (f : ℕ → A) (d : A) (j : ℕ) → j < 8 → get_or (map f (patterns_of width b n)) (8 * i + j) d ≡ f (pattern_at_of width b (8 * i + j))
  file_entry f d j k =
      let inside : 8 * i + j < 8 * n = omega arith in
      get_d_mapped f d 0 (patterns_of width b n) (8 * i + j) (omega (arith, length_upto (pattern_at_of width b) (8 * n)))
      ∙ ap f (get_d_upto (pattern_at_of width b) 0 (8 * n) (8 * i + j) inside)

-- ---- a record as a part of the list

-- the words of the 32 bytes from a place on are those of the record at it
pub words_in : (b x : List ℕ) (at : ℕ) → at + 32 ≤ length b → x ≡ take 32 (drop at b) → Some (upto (word_from x 0) 8) ≡ record_words_of b at
unfolding record_words_of
words_in b x at inside is =
    rw (le-ltb (length b) (at + 32) inside)
    (ap Some (upto_same (word_from x 0) (word_from b at) 8 λ j few.
    rw (
      byte (0 + 4 * j) (omega arith) (at + 4 * j) (omega arith),
      byte (0 + 4 * j + 1) (omega arith) (at + 4 * j + 1) (omega arith),
      byte (0 + 4 * j + 2) (omega arith) (at + 4 * j + 2) (omega arith),
      byte (0 + 4 * j + 3) (omega arith) (at + 4 * j + 3) (omega arith),
    )))
  where
    byte : (m : ℕ) → m < 32 → (k : ℕ) → k ≡ at + m → get_or x m 0 ≡ get_or b k 0
    byte m k i e = ap (λ (s : List ℕ). get_or s m 0) is ∙ get_or-take 32 (drop at b) m 0 k ∙ get_or-drop at b m 0 ∙ ap (λ (k : ℕ). get_or b k 0) (sym e)

-- ---- the records as parts of the list, one after the other

-- what is left of the bytes behind the first i of n records
pub record Left (width n : ℕ) (b : List ℕ) (i : ℕ) (rest : List ℕ) : Type 0 where
  pub few : i ≤ n
  pub behind : rest ≡ drop (record_place width i) b

-- at first, all that stands behind the header
pub left_all : (width n : ℕ) (b : List ℕ) → Left width n b 0 (take (length b - 7) (drop 7 b))
left_all width n b = record {
  few = omega arith;
  behind =
      take_all (length b - 7) (drop 7 b) (omega (arith, length-drop 7 b))
      ∙ ap (λ (k : ℕ). drop (7 + k) b) (sym (mul-zero width));
}

module _ {width n i : ℕ} {b rest : List ℕ} (h : Holds width n b) (left : Left width n b i rest) where
  left_length : width * i + length rest ≡ width * n
  left_length =
      let m : width * i ≤ width * n = mul-le-mul_left width left.few in
      omega (arith, ap length left.behind, length-drop (record_place width i) b, h.whole, m)

  -- no record
  pub left_none : length rest < width → i ≡ n
  left_none short = elim (dec_le n i) [
    | yes a ↦ omega (arith, left.few)
    | no b ↦
        let m : width * (i + 1) ≤ width * n = mul-le-mul_left width (omega arith) in
        absurd (omega (arith, m, mul-add width i 1, mul-one width, left_length))
  ]

  -- one more: the bytes x, and those behind it
  module _ (x next : List ℕ) (is : rest ≡ x ++ next) (wide : length x ≡ width) where
    pub left_some : i < n
    left_some = elim (dec_le n i) [
      | yes a ↦
          let m : width * n ≤ width * i = mul-le-mul_left width a in
          absurd (omega (arith, m, left_length, ap length is, length-append x next, h.wide))
      | no b ↦ omega arith
    ]

    pub left_next : Left width n b (i + 1) next
    left_next = record {
      few = omega (arith, left_some);
      behind =
          sym (drop-append-add x next 0)
          ∙ ap (λ (s : List ℕ). drop (length x + 0) s) (sym is ∙ left.behind)
          ∙ drop-drop (length x + 0) (record_place width i) b
          ∙ ap (λ (k : ℕ). drop k b) (omega (arith, mul-add width i 1, mul-one width));
    }

    -- its bits are those of the file's next eight floats
    pub left_bits : record_bits_of x 0 ≡ upto (λ (j : ℕ). pattern_at_of width b (8 * i + j)) 8
    unfolding record_bits_of
    left_bits =
        rw (le-ltb (length x) 32 (omega (arith, wide, h.wide)))
        (upto_same (word_from x 0) (λ (j : ℕ). pattern_at_of width b (8 * i + j)) 8 λ j k. words j k ∙ sym (pattern_of_record width b i j k))
      where
        byte : (m : ℕ) → m < 32 → (k : ℕ) → k ≡ record_place width i + m → get_or x m 0 ≡ get_or b k 0
        byte m k at e =
            sym (get_or-append x next 0 m (omega (arith, wide, h.wide)))
            ∙ ap (λ (s : List ℕ). get_or s m 0) (sym is ∙ left.behind)
            ∙ get_or-drop (record_place width i) b m 0
            ∙ ap (λ (k : ℕ). get_or b k 0) (sym e)

        words : (j : ℕ) → j < 8 → word_from x 0 j ≡ word_from b (record_place width i) j
        words j k =
            let at = record_place width i in
            rw (
              byte (0 + 4 * j) (omega arith) (at + 4 * j) (omega arith),
              byte (0 + 4 * j + 1) (omega arith) (at + 4 * j + 1) (omega arith),
              byte (0 + 4 * j + 2) (omega arith) (at + 4 * j + 2) (omega arith),
              byte (0 + 4 * j + 3) (omega arith) (at + 4 * j + 3) (omega arith),
            )
