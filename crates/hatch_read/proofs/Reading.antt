-- What a reader does, by what it found the header to be.
use mathlib.Core.Path.{◌≡◌, refl, sym, ap, ◌∙◌, subst}
use mathlib.Core.Bool.{Bool, true, false, cond}
use mathlib.Core.List.{List, map}
use Rattle.lists.specs.Lent.{written}
use Prim.Native.Nat.{ℕ, ◌*◌, ◌≤◌}
use native.Mathlib.Omega.{arith}
use lib.Dec.{ltb}
use lib.ListN.{length}
use borrow.Author.Tests.{le-ltb, ltb-false}
use Rattle.hatch_format.specs.Format.{hsl, rows, expected_length, head_of}
use Rattle.hatch_format.specs.Decode.{Contents, Answer, patterns_of, accepted, body_of, decode, Holds}
use Rattle.hatch_format.specs.HatchList.{HatchList}
use Rattle.hatch_format.proofs.HatchLists.{accepts, accepts_only}
use Rattle.hatch_format.proofs.Records.{held}
use Rattle.hatch_format.specs.declared.header.Row.{Row}
use Rattle.hatch_format.specs.declared.header.Head.{Head}
use Rattle.std.specs.Prelude.{Result, Ok, Err}
use Rattle.types.specs.declared.refusal.Refusal.TheVariants.{Room}
use Rattle.types.specs.declared.refusal.RefusalAt.{RefusalAt}
use Rattle.types.specs.Refusal.{refusal_at}
use Rattle.hatch_read.specs.declared.Read.{Read}
use Rattle.hatch_read.specs.Read.{with_room, decode_into, read_of, read_leaves}
use Rattle.hatch_read.specs.Accepted.{ReadsExactly}

-- a header that is accepted with the list is accepted, and the list has room
accepted_within : (room : ℕ) (r : Result Head RefusalAt) {h : Head} → with_room room r ≡ Ok h → (r ≡ Ok h) × (8 * h.count ≤ room)
unfolding with_room
accepted_within room (Err at) e = absurd (let z : ◌≡◌ {A = ℕ} 0 1 = cc in omega arith)
accepted_within room (Ok q) e = go (ltb room (8 * q.count)) refl e
  where
    go : {h : Head} (t : Bool) → ltb room (8 * q.count) ≡ t
        → cond t (Err (refusal_at Room (expected_length q.row q.count))) (Ok q) ≡ Ok h
        → ◌≡◌ {A = Result Head RefusalAt} (Ok q) (Ok h) × (8 * h.count ≤ room)
    go true t e = absurd (let z : ◌≡◌ {A = ℕ} 0 1 = cc in omega arith)
    go {h} false t e = let same : q ≡ h = cc in (e, subst (λ (x : Head). 8 * x.count ≤ room) same (ltb-false room (8 * q.count) t))

-- what the call has found that gives the header: an accepted file is whole, and the list has room for it
pub whole : (mark b : List ℕ) (room : ℕ) {h : Head} → Ok h ≡ with_room room (head_of mark rows b) → Holds h.row.width h.count b × (8 * h.count ≤ room)
whole mark b room {h} is =
    let x = accepted_within room (head_of mark rows b) (sym is) in
    (held mark b h.row h.count x.0, x.1)

-- ---- a list with room decides nothing

module _ (mark : List ℕ) (table : List Row) (b : List ℕ) (room v n : ℕ) (ps : List ℕ) where
  pub into_plain : decode_into mark table room b ≡ accepted v n ps → decode mark table b ≡ accepted v n ps
  unfolding decode_into decode body_of with_room
  into_plain e = go (head_of mark table b) e
    where
      by_room : (h : Head) (t : Bool) → body_of (cond t (Err (refusal_at Room (expected_length h.row h.count))) (Ok h)) b ≡ accepted v n ps
          → body_of (Ok h) b ≡ accepted v n ps
      by_room h true e = absurd (let z : ◌≡◌ {A = ℕ} 0 1 = cc in omega arith)
      by_room h false e = e

      go : (r : Result Head RefusalAt) → body_of (with_room room r) b ≡ accepted v n ps → body_of r b ≡ accepted v n ps
      go (Err at) e = e
      go (Ok h) e = by_room h (ltb room (8 * h.count)) e

  pub plain_into : decode mark table b ≡ accepted v n ps → 8 * n ≤ room → decode_into mark table room b ≡ accepted v n ps
  unfolding decode_into decode body_of with_room
  plain_into e fits = go (head_of mark table b) e
    where
      go : (r : Result Head RefusalAt) → body_of r b ≡ accepted v n ps → body_of (with_room room r) b ≡ accepted v n ps
      go (Err at) e = e
      go (Ok h) e =
          let c : ◌≡◌ {A = Contents} (record { version = h.row.version; count = h.count; patterns = patterns_of h.row.width b h.count }) (record { version = v; count = n; patterns = ps }) = cc in
          let same : h.count ≡ n = ap (λ (x : Contents). x.count) c in
          rw (le-ltb room (8 * h.count) (omega (arith, same, fits))) e

-- ---- exactly hatch lists are accepted, where the list has room

pub decoded_list : (b : List ℕ) (n : ℕ) → HatchList hsl b n → decode hsl rows b ≡ accepted 1 n (patterns_of 32 b n)
unfolding decode body_of
decoded_list b n h = ap (λ (x : Result Head RefusalAt). body_of x b) (accepts hsl b refl n h)

module _ {A : Type 0} (f : ℕ → A) (b : List ℕ) (l l' : List A) {answer : Result Read RefusalAt}
    (is : answer ≡ read_of (decode_into hsl rows (length l) b)) (left : l' ≡ read_leaves f (decode_into hsl rows (length l) b) l) where
  reads : (n : ℕ) → HatchList hsl b n → 8 * n ≤ length l
      → (answer ≡ Ok (record { version = 1; count = n })) × (l' ≡ written (map f (patterns_of 32 b n)) l)
  unfolding read_of read_leaves
  reads n h fits =
      let said = plain_into hsl rows b (length l) 1 n (patterns_of 32 b n) (decoded_list b n h) fits in
      (is ∙ ap read_of said, left ∙ ap (λ (a : Answer). read_leaves f a l) said)

  abbrev Listed : Read → Type 0
  Listed r = (r.version ≡ 1) × HatchList hsl b r.count × (8 * r.count ≤ length l)

  reads_only : (r : Read) → answer ≡ Ok r → Listed r
  unfolding read_of decode_into body_of
  reads_only r e = go (with_room (length l) (head_of hsl rows b)) refl (sym is ∙ e)
    where
      go : (x : Result Head RefusalAt) → with_room (length l) (head_of hsl rows b) ≡ x → read_of (body_of x b) ≡ Ok r → Listed r
      go (Err at) t e = absurd (let z : ◌≡◌ {A = ℕ} 0 1 = cc in omega arith)
      go (Ok h) t e =
          let within = accepted_within (length l) (head_of hsl rows b) t in
          let list = accepts_only hsl b refl h within.0 in
          let same : ◌≡◌ {A = Read} (record { version = h.row.version; count = h.count }) r = cc in
          subst Listed same (ap (λ (q : Row). q.version) list.0, list.1, within.1)

  pub reads_exactly : ReadsExactly f b answer l l'
  reads_exactly = record { accepts = reads; accepts_only = reads_only }
