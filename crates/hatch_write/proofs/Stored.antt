-- What a list holds after word upon word was stored.
use mathlib.Core.Path.{◌≡◌, refl, sym, ap, ◌∙◌}
use mathlib.Core.List.{List, map}
use Prim.Native.Nat.{ℕ, ◌+◌, ◌*◌, ◌/◌, ◌%◌, ◌<◌}
use native.Mathlib.Omega.{arith}
use lib.ListN.{length, get_or, take, length-map}
use lib.Seq.{sets}
use Rattle.std.specs.Int.{w32, to_le_bytes}
use Rattle.lists.proofs.Entries.{get_d_mapped}
use Rattle.hatch_encode.specs.Encode.{word_bytes, joined}
use Rattle.hatch_encode.proofs.Joined.{stored_more}

-- a word's bytes, in std's word
le_word : (n : ℕ) → to_le_bytes w32 n ≡ word_bytes n
le_word n =
    let third : n / 65536 % 256 ≡ n / 256 / 256 % 256 = omega arith in
    let fourth : n / 16777216 % 256 ≡ n / 256 / 256 / 256 % 256 = omega arith in
    cc

-- the word of one more entry, x
pub word_stored : {A : Type 0} (f : A → ℕ) (s : List A) (l : List ℕ) (at k : ℕ) (x : A) → k < length s → x ≡ get_or s k x
    → sets (sets l at (joined word_bytes (take k (map f s)))) (at + 4 * k) (to_le_bytes w32 (f x)) ≡ sets l at (joined word_bytes (take (k + 1) (map f s)))
word_stored f s l at k x h is =
    let bits : f x ≡ get_or (map f s) k 0 = ap f is ∙ sym (get_d_mapped f 0 x s k h) in
    ap (sets (sets l at (joined word_bytes (take k (map f s)))) (at + 4 * k)) (le_word (f x) ∙ ap word_bytes bits)
    ∙ stored_more word_bytes 4 0 (map f s) (λ i g. refl) l at k (omega (arith, length-map s f))
