-- A lent list that is filled with the entries of a file, one after the other, each through f.
use mathlib.Core.Path.{◌≡◌, refl, sym, ap, ◌∙◌}
use mathlib.Core.List.{List, [], ◌∷◌, ◌++◌, map}
use Rattle.std.proofs.lemmas.List.{map-append, take_more, length-take}
use Prim.Native.Nat.{ℕ, zero, suc, ◌+◌, ◌-◌, ◌*◌, ◌<◌, ◌≤◌}
use native.Mathlib.Numerals.{add-one}
use native.Mathlib.Omega.{arith}
use lib.ListN.{length, get_or, set, take, drop, length-append, length-drop, length-map}
use borrow.Rule.Slice.PartMut.{put_mid}
use Rattle.lists.specs.Lent.{written}
use Rattle.lists.specs.Places.{upto}
use Rattle.lists.proofs.Fill.{length_upto, upto_join, part_stored, store_all, store_next}
use Rattle.hatch_format.specs.Decode.{pattern_at_of, patterns_of}

map_upto : {A : Type 0} (f : ℕ → A) (g : ℕ → ℕ) (n : ℕ) → map f (upto g n) ≡ upto (λ (k : ℕ). f (g k)) n
unfolding upto
map_upto f g zero = refl
map_upto f g (suc n) = map-append f (upto g n) (g n ∷ []) ∙ ap (λ (s : List _). s ++ (f (g n) ∷ [])) (map_upto f g n)

-- ---- the entries of one record

pub put_more : {A : Type 0} (f : ℕ → A) (bits : List ℕ) (l : List A) (j : ℕ) → j < length bits → j < length l
    → set (map f (take j bits) ++ drop j l) j (f (get_or bits j 0)) ≡ map f (take (j + 1) bits) ++ drop (j + 1) l
put_more f bits l j h g =
    let es = map f (take j bits) in
    let done : length es ≡ j = omega (arith, h, length-map (take j bits) f, length-take j bits) in
    store_next es l j (f (get_or bits j 0)) done g
    ∙ ap (λ (s : List _). s ++ drop (suc j) l) (sym (ap (map f) (take_more bits j 0 h) ∙ map-append f (take j bits) (get_or bits j 0 ∷ [])))
    ∙ ap (λ (k : ℕ). map f (take (j + 1) bits) ++ drop k l) (sym (add-one j))

-- ---- those of all records

module _ {A : Type 0} (f : ℕ → A) (width : ℕ) (b : List ℕ) where
  -- after k entries
  abbrev pub filled : ℕ → List A → List A
  filled k l = upto (λ (k : ℕ). f (pattern_at_of width b k)) k ++ drop k l

  pub filled_none : (l : List A) → l ≡ filled 0 l
  unfolding upto
  filled_none l = refl

  -- one more record, the bits of whose floats these are
  pub filled_more : (i : ℕ) (bits : List ℕ) (l : List A) → bits ≡ upto (λ (j : ℕ). pattern_at_of width b (8 * i + j)) 8 → 8 * i + 8 ≤ length l
      → put_mid (8 * i) (8 * i + 8 - 8 * i) (filled (8 * i) l) (map f bits) ≡ filled (8 * (i + 1)) l
  filled_more i bits l is room =
      let at : ℕ → A = λ (k : ℕ). f (pattern_at_of width b k) in
      let es = upto at (8 * i) in
      let done : length es ≡ 8 * i = length_upto at (8 * i) in
      let floats : map f bits ≡ upto (λ (j : ℕ). at (8 * i + j)) 8 = ap (map f) is ∙ map_upto f (λ (j : ℕ). pattern_at_of width b (8 * i + j)) 8 in
      let eight : length (map f bits) ≡ 8 = ap length floats ∙ length_upto (λ (j : ℕ). at (8 * i + j)) 8 in
      let next : 8 * i + 8 ≡ 8 * (i + 1) = omega arith in
      part_stored (8 * i) (8 * i + 8 - 8 * i) (filled (8 * i) l) (map f bits) (omega (arith, eight)) (omega (arith, room, eight, done, length-append es (drop (8 * i) l), length-drop (8 * i) l))
      ∙ store_all (map f bits) es l (8 * i) done (omega (arith, room, eight))
      ∙ ap (λ (k : ℕ). (es ++ map f bits) ++ drop (8 * i + k) l) eight
      ∙ ap (λ (s : List A). (es ++ s) ++ drop (8 * i + 8) l) floats
      ∙ ap (λ (s : List A). s ++ drop (8 * i + 8) l) (upto_join at (8 * i) 8)
      ∙ ap (λ (k : ℕ). filled k l) next

  -- those of n records
  pub filled_all : (n i : ℕ) (l : List A) → i ≡ n → filled (8 * i) l ≡ written (map f (patterns_of width b n)) l
  unfolding written
  filled_all n i l end =
      let ps = patterns_of width b n in
      ap (λ (k : ℕ). filled (8 * k) l) end
      ∙ ap (λ (s : List A). s ++ drop (8 * n) l) (sym (map_upto f (pattern_at_of width b) (8 * n)))
      ∙ ap (λ (k : ℕ). map f ps ++ drop k l) (sym (length-map ps f ∙ length_upto (pattern_at_of width b) (8 * n)))
