-- The whole number closest to a / b, as `round` picks it, is within a half of a / b.
use mathlib.Core.Path.{◌≡◌, refl, ap, ◌∙◌, subst}
use mathlib.Core.Logic.{◌⊎◌, inl, inr}
use mathlib.Core.Bool.{not}
use Prim.Native.Nat.{ℕ, zero, suc, ◌+◌, ◌*◌, ◌/◌, ◌%◌, ◌≤◌, ◌<◌, compare, Ordering}
use native.Mathlib.Nat.{suc-mul, div-add-mod', mod-lt}
use native.Mathlib.Omega.{arith}
use lib.Arith.{lt_of_le-ne}
use lib.Dec.{T, is_le, compare_is_eq, eqb, leb→le, nleb→lt, eqb→eq, eqb_refl}
use lib.Ieee.{nearest}
use lib.Ieee.Nearest.{closest}

-- what `compare` says
abbrev Compared : Ordering → ℕ → ℕ → Type 0
Compared Ordering.lt a b = a < b
Compared Ordering.eq a b = a ≡ b
Compared Ordering.gt a b = b < a

compared : (a b : ℕ) → Compared (compare a b) a b
compared a b = go (compare a b) (leb→le a b) (nleb→lt a b) (eqb→eq a b) (λ (e : a ≡ b). subst (λ (x : ℕ). T (eqb a x)) e (eqb_refl a))
  where
    go : (o : Ordering) → (T (is_le o) → a ≤ b) → (T (not (is_le o)) → b < a) → (T (compare_is_eq o) → a ≡ b) → (a ≡ b → T (compare_is_eq o)) → Compared o a b
    go Ordering.lt le gt eq ne = lt_of_le-ne (le tt) ne
    go Ordering.eq le gt eq ne = eq tt
    go Ordering.gt le gt eq ne = gt tt

-- g is within a half of a / b; all is times 2 * b
abbrev pub Within : ℕ → ℕ → ℕ → Type 0
Within g a b = (2 * (g * b) ≤ 2 * a + b) × (2 * a ≤ 2 * (g * b) + b)

parity : (w : ℕ) → (w % 2 ≡ 0) ⊎ (w % 2 ≡ 1)
parity w = go (w % 2) refl
  where
    go : (r : ℕ) → w % 2 ≡ r → (w % 2 ≡ 0) ⊎ (w % 2 ≡ 1)
    go zero e = inl e
    go (suc r) e = inr (omega arith)

near : (w r b : ℕ) (o : Ordering) → Compared o (r * 2) b → r < b → Within (nearest w o) (w * b + r) b
near w r b Ordering.lt c l = (omega arith, omega arith)
near w r b Ordering.gt c l = let p : suc w * b ≡ w * b + b = suc-mul w b in (omega arith, omega arith)
near w r b Ordering.eq c l = elim (parity w) [
  | inl e ↦
      let s : w + w % 2 ≡ w = omega arith in
      let p : (w + w % 2) * b ≡ w * b = ap (λ (x : ℕ). x * b) s in
      (omega arith, omega arith)
  | inr e ↦
      let s : w + w % 2 ≡ suc w = omega arith in
      let p : (w + w % 2) * b ≡ w * b + b = ap (λ (x : ℕ). x * b) s ∙ suc-mul w b in
      (omega arith, omega arith)
]

pub closest_within : (a b : ℕ) → 0 < b → Within (closest a b) a b
closest_within a b B =
    subst (λ (x : ℕ). Within (closest a b) x b) (div-add-mod' a b)
    (near (a / b) (a % b) b (compare (a % b * 2) b) (compared (a % b * 2) b) (mod-lt a B))
