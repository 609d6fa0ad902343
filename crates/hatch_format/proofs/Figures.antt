-- Small files, and what is read of each: every refusal, in the table's order, and a file that is accepted. Computed.
use mathlib.Core.Path.{◌≡◌, refl}
use mathlib.Core.List.{List, [], ◌∷◌, ◌++◌, map}
use Prim.Native.Nat.{ℕ}
use lib.ListN.{replicate, take}
use Rattle.lists.specs.Places.{upto}
use Rattle.types.specs.declared.refusal.Refusal.TheVariants.{Mark, Version, Count, Length}
use Rattle.hatch_format.specs.Bytes.{starts_with_of}
use Rattle.hatch_format.specs.Format.{hsl, rows, layout_of, sized_of, versioned_of, head_of}
use Rattle.hatch_format.specs.Decode.{Answer, accepted, body_of, decode}
use Rattle.types.specs.declared.refusal.Refusal.{Refusal}
use Rattle.types.specs.Refusal.{refusal_at}
use Rattle.std.specs.Prelude.{Err}

-- a refusal with its byte
abbrev pub refused : Refusal → ℕ → Answer
refused refusal place = Err (refusal_at refusal place)

-- a header, by the low and the high byte of version and count
abbrev opening : ℕ → ℕ → ℕ → ℕ → List ℕ
opening v v' n n' = hsl ++ (v ∷ v' ∷ n ∷ n' ∷ [])

-- a file with one record, whose bytes are 1, 2, 3, 4 over and over
abbrev word : List ℕ
word = 1 ∷ 2 ∷ 3 ∷ 4 ∷ []

abbrev pub single : List ℕ
single = opening 1 0 1 0 ++ word ++ word ++ word ++ word ++ word ++ word ++ word ++ word

record Figure : Type 0 where
  bytes : List ℕ
  answer : Answer

figures : List Figure
figures =
    record { bytes = []; answer = refused Mark 0 }
    ∷ record { bytes = take 2 hsl; answer = refused Mark 0 }
    -- `HSE` and a byte
    ∷ record { bytes = take 2 hsl ++ (69 ∷ 1 ∷ []); answer = refused Mark 0 }
    ∷ record { bytes = hsl; answer = refused Length 3 }
    -- too short comes before a version that there is not
    ∷ record { bytes = hsl ++ (2 ∷ 0 ∷ 0 ∷ []); answer = refused Length 6 }
    ∷ record { bytes = opening 2 0 0 0; answer = refused Version 3 }
    ∷ record { bytes = opening 1 1 0 0; answer = refused Version 3 }
    -- the version comes before the count of 2,001, and that before the length
    ∷ record { bytes = opening 0 0 209 7; answer = refused Version 3 }
    ∷ record { bytes = opening 1 0 209 7; answer = refused Count 5 }
    -- 2,000 are not too many, but none is there
    ∷ record { bytes = opening 1 0 208 7; answer = refused Length 7 }
    -- a byte too many, which the expected length tells, and one too few, which the actual one does
    ∷ record { bytes = opening 1 0 0 0 ++ (0 ∷ []); answer = refused Length 7 }
    ∷ record { bytes = single ++ (0 ∷ []); answer = refused Length 39 }
    ∷ record { bytes = opening 1 0 1 0 ++ replicate 31 0; answer = refused Length 38 }
    ∷ record { bytes = opening 1 0 0 0; answer = accepted 1 0 [] }
    ∷ record { bytes = single; answer = accepted 1 1 (replicate 8 0x0403_0201) }
    ∷ []

figures_right : map (λ (f : Figure). decode hsl rows f.bytes) figures ≡ map (λ (f : Figure). f.answer) figures
unfolding figures starts_with_of upto layout_of sized_of versioned_of head_of body_of decode
figures_right = refl
