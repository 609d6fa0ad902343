-- Laws that docs/ names. No proof cites them.
use mathlib.Core.Path.{◌≡◌, refl, sym, ap, ◌∙◌}
use mathlib.Core.List.{List, [], ◌∷◌, map}
use Prim.Native.Nat.{ℕ, ◌+◌, ◌<◌}
use native.Mathlib.Numerals.{add-one}
use native.Mathlib.Omega.{arith}
use lib.ListN.{length, get_or, set, take}
use lib.Seq.{sets, take-suc, take-length, length-take-le}
use Rattle.lists.proofs.Fill.{sets_append}

-- a loop that stores the entries of s one by one, from a place on
pub sets_more : {A : Type 0} (s l : List A) (at k : ℕ) (d : A) → k < length s → set (sets l at (take k s)) (at + k) (get_or s k d) ≡ sets l at (take (k + 1) s)
sets_more {A} s l at k d h =
    ap (λ (n : ℕ). set (sets l at (take k s)) (at + n) (get_or s k d)) (sym (length-take-le k s (omega arith)))
    ∙ sets_append (take k s) (get_or s k d ∷ []) l at
    ∙ ap (sets l at) (sym (ap (λ (n : ℕ). take n s) (add-one k) ∙ take-suc s k d h))

-- and its end
pub sets_all : {A : Type 0} (s l : List A) (at k : ℕ) → k ≡ length s → sets l at (take k s) ≡ sets l at s
sets_all s l at k e = ap (sets l at) (ap (λ (n : ℕ). take n s) e ∙ take-length s)

pub map_same : {A : Type 0} (s : List A) → map (λ (x : A). x) s ≡ s
map_same [] = refl
map_same (x ∷ s) = ap (λ (r : List _). x ∷ r) (map_same s)
