-- Which headers are accepted, for any mark and any table: both ways. And what an accepted file says.
use mathlib.Core.Path.{◌≡◌, refl, sym, ap, ◌∙◌, subst}
use mathlib.Core.Bool.{Bool, true, false, cond}
use mathlib.Core.List.{List}
use Prim.Native.Nat.{ℕ, ◌+◌, ◌*◌, ◌≤◌}
use native.Mathlib.Omega.{arith}
use lib.Dec.{ltb, eqb}
use lib.ListN.{length}
use borrow.Author.Tests.{ltb-false, eqb-true, le-ltb, eq-eqb}
use Rattle.hatch_format.specs.Bytes.{half_at, starts_with_of}
use Rattle.hatch_format.specs.Format.{layout_of, expected_length, wrong_length_of, sized_of, versioned_of, head, head_of}
use Rattle.hatch_format.specs.Decode.{Contents, patterns_of, accepted, body_of, decode}
use Rattle.hatch_format.specs.declared.header.Row.{Row}
use Rattle.hatch_format.specs.declared.header.Head.{Head}
use Rattle.std.specs.Prelude.{Option, None, Some, Result, Ok, Err}
use Rattle.types.specs.declared.refusal.Refusal.TheVariants.{Mark, Count}
use Rattle.types.specs.declared.refusal.RefusalAt.{RefusalAt}
use Rattle.types.specs.Refusal.{refusal_at}

-- the bytes b are a file with this mark: n records of the version whose row in the table is r
pub record File (mark : List ℕ) (table : List Row) (b : List ℕ) (r : Row) (n : ℕ) : Type 0 where
  pub marked : starts_with_of mark b ≡ true
  pub row : layout_of table (half_at b 3) ≡ Some r
  pub count : half_at b 5 ≡ n
  pub few : n ≤ r.limit
  pub whole : length b ≡ 7 + r.width * n

never : {A : Type 0} (at : RefusalAt) (r : Row) (n : ℕ) → Err at ≡ head r n → A
never at r n e = absurd (let z : ◌≡◌ {A = ℕ} 0 1 = cc in omega arith)

-- what a header says that is accepted
same_head : {r s : Row} {m n : ℕ} → head r m ≡ head s n → (r ≡ s) × (m ≡ n)
same_head {r} {s} {m} {n} e =
    let h : ◌≡◌ {A = Head} (record { row = r; count = m }) (record { row = s; count = n }) = cc in
    (ap (λ (x : Head). x.row) h, ap (λ (x : Head). x.count) h)

module _ (mark : List ℕ) (table : List Row) (b : List ℕ) (r : Row) (n : ℕ) where
  -- the tests of `head_of`, from the last to the first; each `go` takes the answer of a test
  module _ (m : starts_with_of mark b ≡ true) where
    sized_go : (s : Row) (t u : Bool) → layout_of table (half_at b 3) ≡ Some s → ltb s.limit (half_at b 5) ≡ t
        → eqb (length b) (expected_length s (half_at b 5)) ≡ u
        → cond t (Err (refusal_at Count 5)) (cond u (head s (half_at b 5)) (Err (wrong_length_of (length b) (expected_length s (half_at b 5))))) ≡ head r n
        → File mark table b r n
    sized_go s true u x et eu e = never _ _ _ e
    sized_go s false false x et eu e = never _ _ _ e
    sized_go s false true x et eu e =
        let rr = (same_head e).0 in
        let nn = (same_head e).1 in
        record {
          marked = m;
          row = x ∙ ap Some rr;
          count = nn;
          few = subst (λ (q : Row). n ≤ q.limit) rr (subst (λ (k : ℕ). k ≤ s.limit) nn (ltb-false _ _ et));
          whole = eqb-true _ _ eu ∙ ap (λ (k : ℕ). 7 + s.width * k) nn ∙ ap (λ (q : Row). 7 + q.width * n) rr;
        }

    row_go : (l : Option Row) → layout_of table (half_at b 3) ≡ l → versioned_of l (length b) (half_at b 5) ≡ head r n → File mark table b r n
    unfolding versioned_of sized_of
    row_go None x e = never _ _ _ e
    row_go (Some s) x e = sized_go s (ltb s.limit (half_at b 5)) (eqb (length b) (expected_length s (half_at b 5))) x refl refl e

  mark_go : (s t : Bool) → starts_with_of mark b ≡ s
      → cond s (cond t (Err (wrong_length_of (length b) 7)) (versioned_of (layout_of table (half_at b 3)) (length b) (half_at b 5))) (Err (refusal_at Mark 0)) ≡ head r n
      → File mark table b r n
  mark_go false t m e = never _ _ _ e
  mark_go true true m e = never _ _ _ e
  mark_go true false m e = row_go m (layout_of table (half_at b 3)) refl e

  pub accepted_file : head_of mark table b ≡ head r n → File mark table b r n
  unfolding head_of
  accepted_file e = mark_go (starts_with_of mark b) (ltb (length b) 7) refl e

  pub file_accepted : File mark table b r n → head_of mark table b ≡ head r n
  unfolding head_of versioned_of sized_of
  file_accepted f =
      rw (f.marked, le-ltb (length b) 7 (omega (arith, f.whole)), f.row, f.count, le-ltb r.limit n f.few, eq-eqb (length b) (7 + r.width * n) f.whole)

-- a file that is accepted: the row of its version, and the bits of its floats
pub record Taken (mark : List ℕ) (table : List Row) (b : List ℕ) (v n : ℕ) (ps : List ℕ) : Type 0 where
  pub row : Row
  pub is : head_of mark table b ≡ head row n
  pub version : row.version ≡ v
  pub patterns : patterns_of row.width b n ≡ ps

pub taken : (mark : List ℕ) (table : List Row) (b : List ℕ) (v n : ℕ) (ps : List ℕ) → decode mark table b ≡ accepted v n ps → Taken mark table b v n ps
unfolding decode body_of
taken mark table b v n ps e = go (head_of mark table b) refl e
  where
    go : (h : Result Head RefusalAt) → head_of mark table b ≡ h → body_of h b ≡ accepted v n ps → Taken mark table b v n ps
    go (Err at) x e = absurd (let z : ◌≡◌ {A = ℕ} 0 1 = cc in omega arith)
    go (Ok h) x e =
        let c : ◌≡◌ {A = Contents} (record { version = h.row.version; count = h.count; patterns = patterns_of h.row.width b h.count }) (record { version = v; count = n; patterns = ps }) = cc in
        let count : h.count ≡ n = ap (λ (y : Contents). y.count) c in
        record {
          row = h.row;
          is = x ∙ ap (head h.row) count;
          version = ap (λ (y : Contents). y.version) c;
          patterns = ap (patterns_of h.row.width b) (sym count) ∙ ap (λ (y : Contents). y.patterns) c;
        }
