-- A file written and read back, and a file read and written again, for any mark of three bytes, any table and any kind of record.
use mathlib.Core.Path.{◌≡◌, refl, sym, ap, ◌∙◌}
use mathlib.Core.Bool.{true, and-eq-true_iff}
use mathlib.Core.List.{List, [], ◌∷◌, ◌++◌, append_assoc}
use Prim.Native.Nat.{ℕ, ◌+◌, ◌*◌, ◌≤◌}
use native.Mathlib.Omega.{arith}
use lib.Dec.{eqb}
use lib.ListN.{length, take, drop, length-append, length-drop, take-append-drop}
use lib.Seq.{drop_at, drop-drop, take-add, take_all}
use borrow.Author.Tests.{eq-eqb, eqb-true}
use Rattle.hatch_format.specs.Bytes.{half_at, starts_with_of}
use Rattle.hatch_format.specs.Format.{layout_of}
use Rattle.hatch_format.proofs.Table.{found_version}
use Rattle.hatch_format.proofs.Accepted.{accepted_file, file_accepted}
use Rattle.hatch_encode.specs.Encode.{half_bytes, joined, file_of}
use Rattle.hatch_encode.specs.RoundTrip.{Below, AcceptsWritten, WritesAccepted}
use Rattle.hatch_encode.proofs.Joined.{Wide, length_joined, parts}
use Rattle.hatch_encode.proofs.Numbers.{half_is, half_bytes_lem}

-- ---- marks

starts_append : (m t : List ℕ) → starts_with_of m (m ++ t) ≡ true
unfolding starts_with_of
starts_append [] t = refl
starts_append (x ∷ m) t = rw (eq-eqb x x refl) (starts_append m t)

starts_take : (m b : List ℕ) → starts_with_of m b ≡ true → take (length m) b ≡ m
unfolding starts_with_of
starts_take [] b e = refl
starts_take (x ∷ m) [] e = absurd (let z : ◌≡◌ {A = ℕ} 0 1 = cc in omega arith)
starts_take (x ∷ m) (y ∷ b) e =
    let h = (and-eq-true_iff (eqb y x) (starts_with_of m b)).0 e in
    ap (λ (k : ℕ). k ∷ take (length m) b) (eqb-true y x h.0) ∙ ap (λ (t : List ℕ). x ∷ t) (starts_take m b h.1)

module _ {A : Type 0} (f : A → List ℕ) (mark : List ℕ) (three : length mark ≡ 3) (v : ℕ) (rs : List A) where
  abbrev file : List ℕ
  file = file_of f mark v rs

  -- ---- written, and read

  abbrev numbers : List ℕ
  numbers = half_bytes v ++ (half_bytes (length rs) ++ joined f rs)

  by_mark : file ≡ mark ++ numbers
  unfolding file_of
  by_mark = append_assoc mark (half_bytes v ++ half_bytes (length rs)) (joined f rs)

  past : (k : ℕ) → drop (3 + k) file ≡ drop k numbers
  past k = sym (drop-drop k 3 file) ∙ ap (drop k) (ap (drop 3) by_mark ∙ drop_at mark numbers 3 three)

  pub body : drop 7 file ≡ joined f rs
  body = past 4

  pub length_file : (w : ℕ) (d : A) → Wide f w d rs → length file ≡ 7 + w * length rs
  length_file w d e =
      ap length by_mark ∙ omega (arith, three, length-append mark numbers, length_joined f w d rs e)

  -- ---- read, and written again

  -- bytes with this header whose records are what f gives
  pub again : (b : List ℕ) → Below 256 b → 7 ≤ length b → starts_with_of mark b ≡ true → half_at b 3 ≡ v → half_at b 5 ≡ length rs → joined f rs ≡ drop 7 b → file ≡ b
  unfolding file_of
  again b small long marked version count records =
      let m : mark ≡ take 3 b = sym (ap (λ (k : ℕ). take k b) (sym three) ∙ starts_take mark b marked) in
      let x : half_bytes v ≡ take 2 (drop 3 b) = ap half_bytes (sym version) ∙ half_bytes_lem b 3 small (omega arith) in
      let y : half_bytes (length rs) ≡ take 2 (drop 2 (drop 3 b)) =
      ap half_bytes (sym count) ∙ half_bytes_lem b 5 small (omega arith) ∙ ap (take 2) (sym (drop-drop 2 3 b)) in
      ap (λ (t : List ℕ). (t ++ (half_bytes v ++ half_bytes (length rs))) ++ joined f rs) m
      ∙ ap (λ (t : List ℕ). (take 3 b ++ (t ++ half_bytes (length rs))) ++ joined f rs) x
      ∙ ap (λ (t : List ℕ). (take 3 b ++ (take 2 (drop 3 b) ++ t)) ++ joined f rs) y
      ∙ ap (λ (t : List ℕ). (take 3 b ++ t) ++ joined f rs) (sym (take-add 2 2 (drop 3 b)))
      ∙ ap (λ (t : List ℕ). t ++ joined f rs) (sym (take-add 3 4 b))
      ∙ ap (λ (t : List ℕ). take 7 b ++ t) records
      ∙ take-append-drop 7 b

-- ---- for any kind of record

pub accepts_written : AcceptsWritten
accepts_written A f d mark table r three listed rs few wide =
    let v = r.version in
    let b = file_of f mark v rs in
    file_accepted mark table b r (length rs)
    (record {
      marked = ap (starts_with_of mark) (by_mark f mark three v rs) ∙ starts_append mark _;
      row = ap (layout_of table) (half_is b 3 v listed.version (ap (take 2) (past f mark three v rs 0))) ∙ listed.known;
      count = half_is b 5 (length rs) (omega (arith, listed.limit)) (ap (take 2) (past f mark three v rs 2));
      few = few;
      whole = length_file f mark three v rs r.width d wide;
    })

pub writes_accepted : WritesAccepted
writes_accepted A f d mark table r three b small rs is same =
    let file = accepted_file mark table b r (length rs) is in
    let body = parts f r.width d rs (drop 7 b) same ∙ take_all (r.width * length rs) (drop 7 b) (omega (arith, file.whole, length-drop 7 b)) in
    again f mark three r.version rs b small (omega (arith, file.whole)) file.marked (sym (found_version table (half_at b 3) r file.row)) file.count body
