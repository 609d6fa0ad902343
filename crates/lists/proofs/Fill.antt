-- A loop that fills a list from the front, an entry or several a turn.
use mathlib.Core.Path.{◌≡◌, refl, sym, ap, ◌∙◌}
use mathlib.Core.List.{List, [], ◌∷◌, ◌++◌, append_assoc, append-nil}
use Prim.Native.Nat.{ℕ, zero, suc, ◌+◌, ◌<◌, ◌≤◌}
use native.Mathlib.Nat.{add-zero, add-suc}
use native.Mathlib.Numerals.{add-one}
use native.Mathlib.Omega.{arith}
use lib.ListN.{length, set, take, drop, length-append, length-drop}
use lib.Seq.{sets, sets-eq, take_at, drop-append-add, drop-drop}
use borrow.Rule.Slice.PartMut.{put_mid}
use Rattle.lists.specs.Places.{upto}

-- stores one right after the other, behind the n entries that are written
pub store_all : {A : Type 0} (vs es l : List A) (n : ℕ) → length es ≡ n → n + length vs ≤ length l
    → sets (es ++ drop n l) n vs ≡ (es ++ vs) ++ drop (n + length vs) l
store_all {A} vs es l n e h =
    let whole : length (es ++ drop n l) ≡ length l = omega (arith, e, h, length-append es (drop n l), length-drop n l) in
    let place : n + length vs ≡ length es + length vs = omega (arith, e) in
    let rest : drop (n + length vs) (es ++ drop n l) ≡ drop (n + length vs) l =
    ap (λ (k : ℕ). drop k (es ++ drop n l)) place ∙ drop-append-add es (drop n l) (length vs) ∙ drop-drop (length vs) n l in
    sets-eq vs (es ++ drop n l) n (omega (arith, h, whole))
    ∙ ap (λ (t : List A). (t ++ vs) ++ drop (n + length vs) (es ++ drop n l)) (take_at es (drop n l) n e)
    ∙ ap (λ (t : List A). (es ++ vs) ++ t) rest

-- stores that go on where others ended
pub sets_append : {A : Type 0} (s t l : List A) (i : ℕ) → sets (sets l i s) (i + length s) t ≡ sets l i (s ++ t)
sets_append [] t l i = ap (λ (k : ℕ). sets l k t) (add-zero i)
sets_append (x ∷ s) t l i = ap (λ (k : ℕ). sets (sets (set l i x) (suc i) s) k t) (omega arith) ∙ sets_append s t (set l i x) (suc i)

-- a part of a list, from its bounds on, in which s was copied
pub part_stored : {A : Type 0} (at k : ℕ) (l s : List A) → k ≡ length s → at + length s ≤ length l → put_mid at k l s ≡ sets l at s
part_stored at k l s e h =
    ap (λ (t : List _). take at l ++ (s ++ t)) (drop-drop k at l ∙ ap (λ (n : ℕ). drop (at + n) l) e)
    ∙ sym (sets-eq s l at h ∙ append_assoc (take at l) s (drop (at + length s) l))

-- one store
pub store_next : {A : Type 0} (es l : List A) (n : ℕ) (v : A) → length es ≡ n → n < length l
    → set (es ++ drop n l) n v ≡ (es ++ (v ∷ [])) ++ drop (suc n) l
store_next es l n v e h = store_all (v ∷ []) es l n e (omega arith) ∙ ap (λ (k : ℕ). (es ++ (v ∷ [])) ++ drop k l) (add-one n)

pub length_upto : {A : Type 0} (f : ℕ → A) (n : ℕ) → length (upto f n) ≡ n
unfolding upto
length_upto f zero = refl
length_upto f (suc n) = length-append (upto f n) (f n ∷ []) ∙ omega (arith, length_upto f n)

module _ {A : Type 0} (f : ℕ → A) where
  -- with f k stored in turn k, the list is `upto f n ++ drop n l` after n turns
  pub fill_more : (n : ℕ) (l : List A) → n < length l → set (upto f n ++ drop n l) n (f n) ≡ upto f (n + 1) ++ drop (n + 1) l
  unfolding upto
  fill_more n l h = store_next (upto f n) l n (f n) (length_upto f n) h ∙ sym (rw add-one refl)

  -- the first m of a list by its places, and n more
  pub upto_join : (m n : ℕ) → upto f m ++ upto (λ (j : ℕ). f (m + j)) n ≡ upto f (m + n)
  unfolding upto
  upto_join m zero = append-nil (upto f m) ∙ ap (upto f) (sym (add-zero m))
  upto_join m (suc n) =
      sym (append_assoc (upto f m) (upto (λ (j : ℕ). f (m + j)) n) (f (m + n) ∷ []))
      ∙ ap (λ (s : List A). s ++ (f (m + n) ∷ [])) (upto_join m n)
      ∙ ap (upto f) (sym (add-suc m n))
