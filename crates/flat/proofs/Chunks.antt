-- What stands in a list that is cut into chunks of n.
use mathlib.Core.Path.{◌≡◌, ap, ◌∙◌}
use mathlib.Core.List.{List}
use Prim.Native.Nat.{ℕ, zero, suc, ◌+◌, ◌*◌, ◌<◌}
use native.Mathlib.Nat.{mul-zero, mul-suc}
use native.Mathlib.Omega.{arith}
use lib.ListN.{get_or, drop}
use Rattle.std.proofs.lemmas.List.{get_or-take, get_or-drop}
use Rattle.std.specs.Simd.{first_chunks}

-- entry j of chunk i
pub chunk_entry :
    {A : Type 0} (n k : ℕ) (xs : List A) (i j : ℕ) (whole : List A) (d : A) →
    i < k → j < n → get_or (get_or (first_chunks n k xs) i whole) j d ≡ get_or xs (n * i + j) d
chunk_entry n zero xs i j whole d h g = absurd (omega (arith, h))
chunk_entry n (suc k) xs zero j whole d h g = get_or-take n xs j d g ∙ ap (λ m. get_or xs m d) (omega (arith, mul-zero n))
chunk_entry n (suc k) xs (suc i) j whole d h g =
    chunk_entry n k (drop n xs) i j whole d (omega (arith, h)) g
    ∙ get_or-drop n xs (n * i + j) d
    ∙ ap (λ m. get_or xs m d) (omega (arith, mul-suc n i))
