-- The file that is made of its parts: the header, the records of the first list, those that the second adds.
use mathlib.Core.Path.{◌≡◌, sym, ap, ◌∙◌}
use mathlib.Core.List.{List, [], ◌++◌, append_assoc}
use Prim.Native.Nat.{ℕ, ◌+◌, ◌*◌, ◌≤◌}
use native.Mathlib.Omega.{arith}
use lib.ListN.{length, get_or, length-append, length-map}
use lib.Seq.{sets}
use Rattle.std.specs.Prelude.{Ok}
use Rattle.std.specs.List.{All}
use Rattle.types.specs.declared.refusal.Refusal.{Refusal}
use Rattle.lists.specs.Lent.{leaves}
use Rattle.lists.proofs.Fill.{sets_append}
use Rattle.lists.proofs.Lent.{sets_written}
use Rattle.hatch_format.specs.Format.{hsl, version_one_of}
use Rattle.hatch_write.specs.Write.{size_of}
use Rattle.hatch_write.proofs.Writing.{counted}
use Rattle.hatch_encode.specs.Encode.{head_bytes, file_of}
use Rattle.hatch_encode.proofs.Joined.{joined_append, length_joined}
use Rattle.hatch_merge.specs.Parts.{added_of, merged_in, numbered, Adds, flat, flat_file}
use Rattle.hatch_merge.specs.declared.both.Both.{Both}
use Rattle.hatch_merge.proofs.Chunks.{Wide}
use Rattle.hatch_merge.proofs.Storing.{numbered_wide}

length_flat : (rs : List (List ℕ)) → All Wide rs → length (flat rs) ≡ 32 * length rs
length_flat rs wide = length_joined (λ (r : List ℕ). r) 32 [] rs (λ i h. wide i [] h)

-- with the numbers of the records that are added, and the count m that is answered for all records
module _ (both : Both) (numbers l : List ℕ) (adds : Adds both numbers) where
  pub total : length both.first.now + length numbers ≡ length (merged_in both)
  total =
      omega (
        arith,
        length-append both.first.now (added_of both),
        ap length adds.are,
        length-map numbers (λ (j : ℕ). get_or both.second.now j []),
      )

  module _ (m n : ℕ) (is : n ≡ length both.first.now + length numbers) (told : Ok m ≡ size_of version_one_of n (length l)) where
    pub room : 7 + 32 * length both.first.now + 32 * length numbers ≤ length l
    room = omega (arith, is, (counted version_one_of n (length l) m (sym told)).1)

    pub assembled : {l₁ l₂ l₃ : List ℕ} → l₁ ≡ leaves {E = Refusal} (Ok m) (head_bytes hsl 1 n) l → l₂ ≡ sets l₁ 7 (flat both.first.now)
        → l₃ ≡ sets l₂ (7 + 32 * length both.first.now) (flat (numbered both.second.now numbers)) → l₃ ≡ leaves {E = Refusal} (Ok m) (flat_file (merged_in both)) l
    unfolding leaves file_of
    assembled e f g =
        let head = head_bytes hsl 1 n in
        let p = flat both.first.now in
        let q = flat (numbered both.second.now numbers) in
        let joins : flat both.first.now ++ flat (numbered both.second.now numbers) ≡ flat (merged_in both) =
        ap (λ (rs : List (List ℕ)). p ++ flat rs) adds.are ∙ sym (joined_append (λ (r : List ℕ). r) both.first.now (added_of both)) in
        let file : head_bytes hsl 1 n ++ (flat both.first.now ++ flat (numbered both.second.now numbers)) ≡ flat_file (merged_in both) =
        ap (λ (k : ℕ). head_bytes hsl 1 k ++ (p ++ q)) (is ∙ total) ∙ ap (λ (s : List ℕ). head_bytes hsl 1 (length (merged_in both)) ++ s) joins in
        let long : length (flat both.first.now) ≡ 32 * length both.first.now = length_flat both.first.now both.wide_firsts in
        let more : length (flat (numbered both.second.now numbers)) ≡ 32 * length numbers =
        length_flat (numbered both.second.now numbers) (numbered_wide both.second.now both.wide_seconds numbers adds.inside)
        ∙ ap (λ (k : ℕ). 32 * k) (length-map numbers (λ (j : ℕ). get_or both.second.now j [])) in
        let size : 0 + length (head ++ p) ≡ 7 + 32 * length both.first.now = omega (arith, length-append head p, long) in
        let whole : length (head ++ (p ++ q)) ≤ length l = omega (arith, length-append head (p ++ q), length-append p q, long, more, room) in
        g
        ∙ ap (λ (s : List ℕ). sets s (7 + 32 * length both.first.now) q)
        (f ∙ ap (λ (s : List ℕ). sets s 7 p) (e ∙ sym (sets_written head l (omega (arith, room)))) ∙ sets_append head p l 0)
        ∙ ap (λ (k : ℕ). sets (sets l 0 (head ++ p)) k q) (sym size)
        ∙ sets_append (head ++ p) q l 0
        ∙ ap (sets l 0) (append_assoc head p q)
        ∙ sets_written (head ++ (p ++ q)) l whole
        ∙ ap (λ (s : List ℕ). leaves {E = Refusal} (Ok m) s l) file
