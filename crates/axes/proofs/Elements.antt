-- A list of known length, element by element. No proof cites it.
use mathlib.Core.Path.{◌≡◌, refl, ap}
use mathlib.Core.List.{List, [], ◌∷◌}
use Prim.Native.Nat.{ℕ, zero, suc}
use native.Mathlib.Omega.{arith}
use lib.ListN.{length, get_or}

-- f 0, f 1 and so on, n of them
abbrev pub listed : {A : Type 0} → ℕ → (ℕ → A) → List A
listed zero f = []
listed (suc n) f = f 0 ∷ listed n (λ i. f (suc i))

pub by_elements : {A : Type 0} (d : A) (n : ℕ) (xs : List A) → length xs ≡ n → xs ≡ listed n (λ i. get_or xs i d)
by_elements d zero [] e = refl
by_elements d zero (x ∷ xs) e = absurd (omega (arith, e))
by_elements d (suc n) [] e = absurd (omega (arith, e))
by_elements d (suc n) (x ∷ xs) e = ap (λ ys. x ∷ ys) (by_elements d n xs (omega (arith, e)))
