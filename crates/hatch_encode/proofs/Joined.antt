-- Entries that stand one after the other, each of w places, and the parts of a list.
use mathlib.Core.Path.{◌≡◌, refl, sym, ap, ◌∙◌}
use mathlib.Core.List.{List, [], ◌∷◌, ◌++◌, append_assoc, append-nil}
use Prim.Native.Nat.{ℕ, zero, suc, ◌+◌, ◌*◌, ◌<◌, ◌≤◌}
use native.Mathlib.Nat.{mul-zero, mul-suc}
use native.Mathlib.Numerals.{add-one}
use native.Mathlib.Omega.{arith}
use lib.ListN.{length, get_or, take, drop, length-append, length-take, length-drop}
use lib.Seq.{sets, get_or-take, take-suc, take-take, take_at, take-add, drop-append-add, drop-drop, length-take-le}
use Rattle.lists.proofs.Entries.{get_d_upto}
use Rattle.lists.proofs.Fill.{length_upto, sets_append}
use Rattle.hatch_format.specs.Decode.{record_count_of}
use Rattle.hatch_encode.specs.Encode.{joined, record_in, records_in}

-- a part of a list's first entries is that part of the list
pub part_of_front : {A : Type 0} (q m w : ℕ) (l : List A) → q + m ≤ w → take m (drop q (take w l)) ≡ take m (drop q l)
part_of_front zero m w l h = take-take m w l (omega arith)
part_of_front (suc q) m zero l h = absurd (omega arith)
part_of_front (suc q) m (suc w) [] h = refl
part_of_front (suc q) m (suc w) (x ∷ l) h = part_of_front q m w l (omega arith)

module _ {A B : Type 0} (f : A → List B) where
  pub joined_append : (s t : List A) → joined f (s ++ t) ≡ joined f s ++ joined f t
  unfolding joined
  joined_append [] t = refl
  joined_append (x ∷ s) t = ap (λ (r : List B). f x ++ r) (joined_append s t) ∙ sym (append_assoc (f x) (joined f s) (joined f t))

  joined_one : (x : A) → joined f (x ∷ []) ≡ f x
  unfolding joined
  joined_one x = append-nil (f x)

  -- lists of entries, joined at once or one list after the other
  pub joined_twice : (ls : List (List A)) → joined (joined f) ls ≡ joined f (joined (λ (s : List A). s) ls)
  unfolding joined
  joined_twice [] = refl
  joined_twice (s ∷ ls) = ap (λ (r : List B). joined f s ++ r) (joined_twice ls) ∙ sym (joined_append s (joined (λ (s : List A). s) ls))

  module _ (w : ℕ) (d : A) where
    -- each entry of a list takes w places
    abbrev pub Wide : List A → Type 0
    Wide s = (i : ℕ) → i < length s → length (f (get_or s i d)) ≡ w

    pub length_joined : (s : List A) → Wide s → length (joined f s) ≡ w * length s
    unfolding joined
    length_joined [] e = sym (mul-zero w)
    length_joined (x ∷ s) e =
        omega (arith, length-append (f x) (joined f s), e 0 (omega arith), length_joined s (λ i h. e (suc i) (omega arith)), mul-suc w (length s))

    -- what stands at the place of entry i
    pub part : (s : List A) → Wide s → (i : ℕ) → i < length s → take w (drop (w * i) (joined f s)) ≡ f (get_or s i d)
    unfolding joined
    part [] e i h = absurd (omega arith)
    part (x ∷ s) e zero h = ap (λ (k : ℕ). take w (drop k (f x ++ joined f s))) (mul-zero w) ∙ take_at (f x) (joined f s) w (e 0 h)
    part (x ∷ s) e (suc i) h =
        let past : w * suc i ≡ length (f x) + w * i = omega (arith, e 0 (omega arith), mul-suc w i) in
        ap (λ (k : ℕ). take w (drop k (f x ++ joined f s))) past
        ∙ ap (take w) (drop-append-add (f x) (joined f s) (w * i))
        ∙ part s (λ i h. e (suc i) (omega arith)) i (omega arith)

    -- entries that are a list's parts, of w each, make that list
    pub parts : (s : List A) (l : List B) → ((i : ℕ) → i < length s → f (get_or s i d) ≡ take w (drop (w * i) l)) → joined f s ≡ take (w * length s) l
    unfolding joined
    parts [] l h = sym (ap (λ (k : ℕ). take k l) (mul-zero w))
    parts (x ∷ s) l h =
        let first : f x ≡ take w l = h 0 (omega arith) ∙ ap (λ (k : ℕ). take w (drop k l)) (mul-zero w) in
        let sum : w + w * length s ≡ w * length (x ∷ s) = omega (arith, mul-suc w (length s)) in
        ap (λ (r : List B). f x ++ r) (parts s (drop w l) λ i g. h (suc i) (omega arith) ∙ ap (take w) (next i))
        ∙ ap (λ (r : List B). r ++ take (w * length s) (drop w l)) first
        ∙ sym (take-add w (w * length s) l)
        ∙ ap (λ (k : ℕ). take k l) sum
      where
        next : (i : ℕ) → drop (w * suc i) l ≡ drop (w * i) (drop w l)
        next i = let sum : w * suc i ≡ w + w * i = omega (arith, mul-suc w i) in ap (λ (k : ℕ). drop k l) sum ∙ sym (drop-drop (w * i) w l)

    -- a loop that stores entry after entry, from a place on
    pub stored_more : (s : List A) → Wide s → (l : List B) (at k : ℕ) → k < length s
        → sets (sets l at (joined f (take k s))) (at + w * k) (f (get_or s k d)) ≡ sets l at (joined f (take (k + 1) s))
    stored_more s e l at k h =
        let size : length (joined f (take k s)) ≡ w * k =
        length_joined (take k s) front ∙ ap (λ (n : ℕ). w * n) (length-take-le k s (omega arith)) in
        let next : take (k + 1) s ≡ take k s ++ (get_or s k d ∷ []) = ap (λ (n : ℕ). take n s) (add-one k) ∙ take-suc s k d h in
        ap (λ (n : ℕ). sets (sets l at (joined f (take k s))) (at + n) (f (get_or s k d))) (sym size)
        ∙ sets_append (joined f (take k s)) (f (get_or s k d)) l at
        ∙ ap (λ (r : List B). sets l at (joined f (take k s) ++ r)) (sym (joined_one (get_or s k d)))
        ∙ ap (sets l at) (sym (joined_append (take k s) (get_or s k d ∷ [])) ∙ ap (joined f) (sym next))
      where
        front : Wide (take k s)
        front i g = let j : i < k = omega (arith, length-take k s) in ap (λ (x : A). length (f x)) (get_or-take k s i d j) ∙ e i (omega arith)

-- ---- records

module _ {A : Type 0} (l : List A) where
  pub count_records : length (records_in l) ≡ record_count_of l
  count_records = length_upto (record_in l) (record_count_of l)

  pub record_is : (i : ℕ) → i < record_count_of l → get_or (records_in l) i [] ≡ record_in l i
  record_is i h = get_d_upto (record_in l) [] (record_count_of l) i h

  pub length_record : (i : ℕ) → i < record_count_of l → length (record_in l i) ≡ 8
  length_record i h = length-take-le 8 (drop (8 * i) l) (omega (arith, length-drop (8 * i) l))

  -- the records one after the other are the list, without an incomplete last one
  pub records_joined : joined (λ (r : List A). r) (records_in l) ≡ take (8 * record_count_of l) l
  records_joined =
      parts (λ (r : List A). r) 8 [] (records_in l) l (λ i h. record_is i (omega (arith, count_records)))
      ∙ ap (λ (n : ℕ). take (8 * n) l) count_records
