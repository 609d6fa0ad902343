-- The records of a file, as parts of the list of its entries. No proof cites this law. It stands because docs/PORT.md names it.
use mathlib.Core.Path.{◌≡◌, sym, ap, ◌∙◌}
use mathlib.Core.List.{List, map}
use Prim.Native.Nat.{ℕ, ◌+◌, ◌*◌, ◌<◌, ◌≤◌}
use native.Mathlib.Omega.{arith}
use native.Mathlib.Nat.{mul-le-mul_left, mul-add, mul-one}
use borrow.Author.Tests.{le-ltb}
use lib.ListN.{length, take, drop, length-drop, length-map}
use lib.Seq.{get_or-take, get_or-drop, length-take-le}
use Rattle.lists.specs.Places.{upto}
use Rattle.lists.proofs.Entries.{get_d_upto, mapped}
use Rattle.lists.proofs.Fill.{length_upto}
use Rattle.hatch_format.specs.Bytes.{word_from}
use Rattle.hatch_format.specs.Format.{record_place}
use Rattle.hatch_format.specs.Decode.{pattern_at_of, patterns_of, record_bits_of, Holds}
use Rattle.hatch_format.proofs.Records.{pattern_of_record, file_entry}

module _ {A : Type 0} (f : ℕ → A) (d : A) (width n : ℕ) (b : List ℕ) (h : Holds width n b) where
  abbrev entries : List A
  entries = map f (patterns_of width b n)

  -- the entries of a record are a part of the file's
  pub record_part_lem : (i : ℕ) → i < n → map f (record_bits_of b (record_place width i)) ≡ take 8 (drop (8 * i) entries)
  unfolding record_bits_of
  record_part_lem i g =
      let at = record_place width i in
      let words = upto (word_from b at) 8 in
      let m : width * (i + 1) ≤ width * n = mul-le-mul_left width (omega arith) in
      let inside : at + 32 ≤ length b = omega (arith, h.whole, h.wide, m, mul-add width i 1, mul-one width) in
      let eight : length words ≡ 8 = length_upto (word_from b at) 8 in
      let all : length entries ≡ 8 * n = length-map (patterns_of width b n) f ∙ length_upto (pattern_at_of width b) (8 * n) in
      let part : length (take 8 (drop (8 * i) entries)) ≡ 8 = length-take-le 8 (drop (8 * i) entries) (omega (arith, length-drop (8 * i) entries, all)) in
      rw (le-ltb (length b) (at + 32) inside)
      (sym (mapped f d 0 words (take 8 (drop (8 * i) entries)) (part ∙ sym eight) λ j k.
      let few : j < 8 = omega (arith, k, eight) in
      get_or-take 8 (drop (8 * i) entries) j d few
      ∙ get_or-drop (8 * i) entries j d
      ∙ file_entry width n b i g f d j few
      ∙ ap f (pattern_of_record width b i j few ∙ sym (get_d_upto (word_from b at) 0 8 j few))))
