-- A number and its bytes, of any count, and what is read at a byte.
use mathlib.Core.Path.{◌≡◌, refl, sym, ap, ◌∙◌, subst}
use mathlib.Core.List.{List, [], ◌∷◌}
use Prim.Native.Nat.{ℕ, zero, suc, ◌+◌, ◌*◌, ◌/◌, ◌%◌, ◌<◌, ◌≤◌}
use native.Mathlib.Nat.{add-zero}
use native.Mathlib.Omega.{arith}
use lib.Dec.{lit<}
use lib.ListN.{length, get_or, take, drop, length-drop}
use lib.Seq.{take-nil, get_or-drop, drop-drop, length-take-le}
use Rattle.hatch_format.specs.Bytes.{half_at, word_at}
use Rattle.hatch_encode.specs.Encode.{bytes_of, half_bytes, word_bytes}
use Rattle.hatch_encode.specs.RoundTrip.{Below}

-- the number that bytes make
abbrev number : List ℕ → ℕ
number [] = 0
number (x ∷ s) = x + 256 * number s

-- how many numbers k bytes make
abbrev span : ℕ → ℕ
span zero = 1
span (suc k) = 256 * span k

number_back : (k x : ℕ) → x < span k → number (bytes_of k x) ≡ x
number_back zero x h = omega arith
number_back (suc k) x h = omega (arith, number_back k (x / 256) (omega arith))

bytes_back : (s : List ℕ) → Below 256 s → bytes_of (length s) (number s) ≡ s
bytes_back [] small = refl
bytes_back (x ∷ s) small =
    let byte : x < 256 = small 0 in
    let low : (x + 256 * number s) % 256 ≡ x = omega arith in
    let high : (x + 256 * number s) / 256 ≡ number s = omega arith in
    ap (λ (y : ℕ). y ∷ bytes_of (length s) ((x + 256 * number s) / 256)) low
    ∙ ap (λ (y : ℕ). x ∷ bytes_of (length s) y) high
    ∙ ap (λ (r : List ℕ). x ∷ r) (bytes_back s λ k. small (suc k))

-- ---- parts of a list of bytes

pub below_drop : (bound n : ℕ) (l : List ℕ) → Below bound l → Below bound (drop n l)
below_drop bound n l small k = subst (λ (x : ℕ). x < bound) (sym (get_or-drop n l k 0)) (small (n + k))

pub below_take : (bound n : ℕ) (l : List ℕ) → 0 < bound → Below bound l → Below bound (take n l)
below_take bound zero l some small k = some
below_take bound (suc n) [] some small k = some
below_take bound (suc n) (x ∷ l) some small zero = small 0
below_take bound (suc n) (x ∷ l) some small (suc k) = below_take bound n l some (λ i. small (suc i)) k

module _ (b : List ℕ) where
  part_bytes : (k at : ℕ) → Below 256 b → at + k ≤ length b → bytes_of k (number (take k (drop at b))) ≡ take k (drop at b)
  part_bytes k at small h =
      ap (λ (n : ℕ). bytes_of n (number (take k (drop at b)))) (sym (length-take-le k (drop at b) (omega (arith, length-drop at b))))
      ∙ bytes_back (take k (drop at b)) (below_take 256 k (drop at b) (lit< tt) (below_drop 256 at b small))

  first : (k : ℕ) (s : List ℕ) → number (take (suc k) s) ≡ get_or s 0 0 + 256 * number (take k (drop 1 s))
  first k [] = ap (λ (s : List ℕ). 0 + 256 * number s) (sym (take-nil k))
  first k (x ∷ s) = refl

  next : (k at to : ℕ) → at + 1 ≡ to → number (take (suc k) (drop at b)) ≡ get_or b at 0 + 256 * number (take k (drop to b))
  next k at to e =
      first k (drop at b)
      ∙ ap (λ (x : ℕ). x + 256 * number (take k (drop 1 (drop at b)))) (get_or-drop at b 0 0 ∙ ap (λ (i : ℕ). get_or b i 0) (add-zero at))
      ∙ ap (λ (s : List ℕ). get_or b at 0 + 256 * number (take k s)) (drop-drop 1 at b ∙ ap (λ (i : ℕ). drop i b) e)

  module _ (at : ℕ) where
    half_number : half_at b at ≡ number (take 2 (drop at b))
    half_number = omega (arith, next 1 at (at + 1) refl, next 0 (at + 1) (at + 2) (omega arith))

    word_number : word_at b at ≡ number (take 4 (drop at b))
    word_number =
        omega (
          arith,
          next 3 at (at + 1) refl,
          next 2 (at + 1) (at + 2) (omega arith),
          next 1 (at + 2) (at + 3) (omega arith),
          next 0 (at + 3) (at + 4) (omega arith),
        )

    -- what is read where the bytes of a number stand
    pub half_is : (x : ℕ) → x < 65536 → take 2 (drop at b) ≡ half_bytes x → half_at b at ≡ x
    half_is x h e = half_number ∙ ap number e ∙ number_back 2 x h

    pub word_is : (x : ℕ) → x < 4294967296 → take 4 (drop at b) ≡ word_bytes x → word_at b at ≡ x
    word_is x h e = word_number ∙ ap number e ∙ number_back 4 x h

    -- and the bytes of what is read
    pub half_bytes_lem : Below 256 b → at + 2 ≤ length b → half_bytes (half_at b at) ≡ take 2 (drop at b)
    half_bytes_lem small h = ap half_bytes half_number ∙ part_bytes 2 at small h

    pub word_bytes_lem : Below 256 b → at + 4 ≤ length b → word_bytes (word_at b at) ≡ take 4 (drop at b)
    word_bytes_lem small h = ap word_bytes word_number ∙ part_bytes 4 at small h
