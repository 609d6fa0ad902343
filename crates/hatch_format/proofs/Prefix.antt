-- What a file says is decided by more of its bytes than the longest file has.
use mathlib.Core.Path.{◌≡◌, refl, ap, ◌∙◌}
use mathlib.Core.Bool.{Bool, true, false, cond, ◌&&◌}
use mathlib.Core.List.{List, [], ◌∷◌}
use Prim.Native.Nat.{ℕ, zero, suc, ◌+◌, ◌<◌, ◌≤◌}
use native.Mathlib.Decide.{dec_le}
use native.Mathlib.Omega.{arith}
use lib.Dec.{ltb, eqb}
use lib.ListN.{length, take}
use lib.Seq.{get_or-take, length-take-le}
use borrow.Author.Tests.{ltb-false, le-ltb, ne_eqb}
use Rattle.std.proofs.lemmas.List.{take_all}
use Rattle.hatch_format.specs.Bytes.{half_at, starts_with_of}
use Rattle.hatch_format.specs.Format.{hsl, rows, layout_of, expected_length, wrong_length_of, sized_of, versioned_of, head, head_of}
use Rattle.hatch_format.specs.Decode.{body_of, decode}
use Rattle.hatch_format.specs.declared.header.Row.{Row}
use Rattle.hatch_format.specs.declared.header.Head.{Head}
use Rattle.hatch_format.specs.declared.header.TheConstants.{BYTES_MAX}
use Rattle.std.specs.Prelude.{Option, None, Some, Result, Ok, Err}
use Rattle.types.specs.declared.refusal.Refusal.TheVariants.{Count, Length}
use Rattle.types.specs.declared.refusal.RefusalAt.{RefusalAt}
use Rattle.types.specs.Refusal.{refusal_at}
use Rattle.hatch_format.proofs.Table.{Fine, fine, found}
use Rattle.hatch_format.proofs.Accepted.{accepted_file}
use Rattle.hatch_format.proofs.Bounds.{expected_short}

starts_take : (m b : List ℕ) (k : ℕ) → length m ≤ k → starts_with_of m (take k b) ≡ starts_with_of m b
unfolding starts_with_of
starts_take [] b k h = refl
starts_take (x ∷ m) b zero h = absurd (omega arith)
starts_take (x ∷ m) [] (suc k) h = refl
starts_take (x ∷ m) (y ∷ b) (suc k) h = ap (λ (t : Bool). eqb y x && t) (starts_take m b k (omega arith))

half_take : (b : List ℕ) (k at : ℕ) → at + 1 < k → half_at (take k b) at ≡ half_at b at
half_take b k at h = rw (get_or-take k b at 0 (omega arith), get_or-take k b (at + 1) 0 h)

-- two lengths, both above that of any file
module _ (size other : ℕ) (long : BYTES_MAX < size) (longer : BYTES_MAX < other) where
  sized_same : (r : Row) (n : ℕ) → Fine r → sized_of r size n ≡ sized_of r other n
  unfolding sized_of
  sized_same r n f = go (ltb r.limit n) refl
    where
      go : (t : Bool) → ltb r.limit n ≡ t
          → cond t (Err (refusal_at Count 5)) (cond (eqb size (expected_length r n)) (head r n) (Err (wrong_length_of size (expected_length r n))))
          ≡ cond t (Err (refusal_at Count 5)) (cond (eqb other (expected_length r n)) (head r n) (Err (wrong_length_of other (expected_length r n))))
      go true t = refl
      go false t =
          let short = expected_short r n f (ltb-false r.limit n t) in
          let e = expected_length r n in
          rw (ne_eqb size e (λ z. omega (arith, z, short)), ne_eqb other e (λ z. omega (arith, z, short)))
          (ap (λ (place : ℕ). Err (refusal_at Length place)) (omega (arith, short)))

  versioned_same : (l : Option Row) (n : ℕ) → ((r : Row) → l ≡ Some r → Fine r) → versioned_of l size n ≡ versioned_of l other n
  unfolding versioned_of
  versioned_same None n f = refl
  versioned_same (Some r) n f = sized_same r n (f r refl)

-- the bytes b are more than k, which is more than any file has
module _ (b : List ℕ) (k : ℕ) (long : BYTES_MAX < k) (more : k ≤ length b) where
  head_take : head_of hsl rows (take k b) ≡ head_of hsl rows b
  unfolding head_of
  head_take =
      let size : length (take k b) ≡ k = length-take-le k b more in
      rw (
        starts_take hsl b k (omega arith),
        size,
        le-ltb k 7 (omega arith),
        le-ltb (length b) 7 (omega arith),
        half_take b k 3 (omega arith),
        half_take b k 5 (omega arith),
        versioned_same k (length b) long (omega arith) (layout_of rows (half_at b 3)) (half_at b 5) (λ r e. (found Fine rows (half_at b 3) r fine e).0),
      )

  -- such bytes are refused, so that the bits of no float are said
  same_body : (h : Result Head RefusalAt) → head_of hsl rows b ≡ h → body_of h (take k b) ≡ body_of h b
  unfolding body_of
  same_body (Err at) e = refl
  same_body (Ok h) e =
      let f = accepted_file hsl rows b h.row h.count e in
      let fits = (found Fine rows (half_at b 3) h.row fine f.row).0 in
      absurd (omega (arith, f.whole, expected_short h.row h.count fits f.few))

-- for k bytes that are more than any file has
pub decode_take : (b : List ℕ) (k : ℕ) → BYTES_MAX < k → decode hsl rows (take k b) ≡ decode hsl rows b
unfolding decode
decode_take b k long = elim (dec_le k (length b)) [
  | yes a ↦
      ap (λ (h : Result Head RefusalAt). body_of h (take k b)) (head_take b k long a)
      ∙ same_body b k long a (head_of hsl rows b) refl
  | no a ↦ ap (λ (x : List ℕ). body_of (head_of hsl rows x) x) (take_all k b (omega arith))
]
