-- Small files, from the bits of their floats: no record, one, and one with seven entries more, which make no record. Computed.
use mathlib.Core.Path.{◌≡◌, refl}
use mathlib.Core.List.{List, [], ◌∷◌, ◌++◌, map}
use Prim.Native.Nat.{ℕ}
use lib.ListN.{replicate}
use Rattle.lists.specs.Places.{upto}
use Rattle.hatch_format.specs.Format.{hsl}
use Rattle.hatch_format.proofs.Figures.{single}
use Rattle.hatch_encode.specs.Encode.{joined, file_of, record_bytes, encode}

record Figure : Type 0 where
  patterns : List ℕ
  bytes : List ℕ

figures : List Figure
figures =
    record { patterns = []; bytes = hsl ++ (1 ∷ 0 ∷ 0 ∷ 0 ∷ []) }
    ∷ record { patterns = replicate 8 0x0403_0201; bytes = single }
    ∷ record { patterns = replicate 15 0x0403_0201; bytes = single }
    ∷ []

figures_right : map (λ (f : Figure). encode hsl 1 f.patterns) figures ≡ map (λ (f : Figure). f.bytes) figures
unfolding figures upto joined file_of record_bytes encode
figures_right = refl
