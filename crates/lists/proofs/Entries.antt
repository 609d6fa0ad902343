-- A list by its entries.
use mathlib.Core.Path.{◌≡◌, refl, sym, ap, ◌∙◌}
use mathlib.Core.List.{List, [], ◌∷◌, ◌++◌, map}
use Prim.Native.Nat.{ℕ, zero, suc, ◌<◌}
use native.Mathlib.Decide.{dec_le}
use native.Mathlib.Omega.{arith}
use lib.ListN.{length, get_or, get_or-append, length-map}
use lib.Seq.{get_or_at, ext_get_or}
use Rattle.lists.specs.Places.{upto}
use Rattle.lists.proofs.Fill.{length_upto}

pub get_d_upto : {A : Type 0} (f : ℕ → A) (d : A) (n i : ℕ) → i < n → get_or (upto f n) i d ≡ f i
unfolding upto
get_d_upto f d zero i h = absurd (omega arith)
get_d_upto f d (suc n) i h = elim (dec_le n i) [
  | yes a ↦ let e : n ≡ i = omega arith in get_or_at (upto f n) (f n) [] d i (length_upto f n ∙ e) ∙ ap f e
  | no b ↦ get_or-append (upto f n) (f n ∷ []) d i (omega (arith, length_upto f n)) ∙ get_d_upto f d n i (omega arith)
]

pub get_d_mapped : {A B : Type 0} (f : A → B) (d : B) (e : A) (l : List A) (i : ℕ) → i < length l → get_or (map f l) i d ≡ f (get_or l i e)
get_d_mapped f d e [] i h = absurd (omega arith)
get_d_mapped f d e (x ∷ l) zero h = refl
get_d_mapped f d e (x ∷ l) (suc i) h = get_d_mapped f d e l i (omega arith)

-- a list as long as l, whose entries are those of l through f, is l through f
pub mapped : {A B : Type 0} (f : A → B) (d : B) (e : A) (l : List A) (r : List B) → length r ≡ length l
    → ((j : ℕ) → j < length l → get_or r j d ≡ f (get_or l j e)) → r ≡ map f l
mapped f d e l r same at = ext_get_or d r (map f l) (same ∙ sym (length-map l f)) λ j h.
    let few : j < length l = omega (arith, h, length-map l f, same) in at j few ∙ sym (get_d_mapped f d e l j few)

-- a list whose entries are e 0, e 1, .. is that list
pub listed : {A : Type 0} (d : A) (e : ℕ → A) (s : List A) → ((j : ℕ) → j < length s → get_or s j d ≡ e j) → s ≡ upto e (length s)
listed d e s h = ext_get_or d s (upto e (length s)) (sym (length_upto e (length s))) λ j g. h j g ∙ sym (get_d_upto e d (length s) j g)

-- the same entries make the same list
pub upto_same : {A : Type 0} (f g : ℕ → A) (n : ℕ) → ((j : ℕ) → j < n → f j ≡ g j) → upto f n ≡ upto g n
unfolding upto
upto_same f g zero h = refl
upto_same f g (suc n) h =
    ap (λ (s : List _). s ++ (f n ∷ [])) (upto_same f g n λ j l. h j (omega arith)) ∙ ap (λ (x : _). upto g n ++ (x ∷ [])) (h n (omega arith))
