-- The lines, one after the other, each from its record in the bytes.
use mathlib.Core.Path.{◌≡◌, sym, ap, ◌∙◌}
use mathlib.Core.List.{List, ◌++◌, map}
use Prim.Native.Nat.{ℕ, ◌+◌, ◌*◌, ◌<◌}
use native.Mathlib.Numerals.{add-one}
use lib.Dec.{lit≤}
use lib.ListN.{get_or}
use lib.Ieee.{Float, nan}
use Rattle.lists.specs.Places.{upto}
use Rattle.lists.proofs.Entries.{get_d_upto}
use Rattle.hatch_format.specs.Decode.{float_of, pattern_at_of, patterns_of}
use Rattle.hatch_format.proofs.Records.{file_entry}
use Rattle.hatch_read.specs.Record.{record_of}
use Rattle.text.specs.declared.Page.{Page}
use Rattle.text.specs.Page.{Adds}
use Rattle.text.proofs.Laws.{none, many, same}
use Rattle.report.specs.Report.{record_in, clip_at, line_of, lines_of}

pub lines_none : (fs : List Float) (p : Page) → Adds p (lines_of fs 0) p
unfolding lines_of
lines_none fs p = none p

lines_suc : (fs : List Float) (k : ℕ) → lines_of fs k ++ line_of (k + 1) (clip_at fs k) ≡ lines_of fs (k + 1)
unfolding lines_of
lines_suc fs k = sym (ap (lines_of fs) (add-one k))

pub lines_more : (fs : List Float) (k : ℕ) {p q r : Page} → Adds p (lines_of fs k) q → Adds q (line_of (k + 1) (clip_at fs k)) r → Adds p (lines_of fs (k + 1)) r
lines_more fs k e f = same (lines_suc fs k) (many _ _ e f)

-- the record of these bits is the record of that number of the whole file
pub record_is : (width n : ℕ) (b : List ℕ) (k : ℕ) → k < n → {bits : List ℕ} → bits ≡ upto (λ (j : ℕ). pattern_at_of width b (8 * k + j)) 8
    → record_of bits ≡ record_in (map float_of (patterns_of width b n)) k
record_is width n b k g {bits} is =
    rw (at 0 (lit≤ tt), at 1 (lit≤ tt), at 2 (lit≤ tt), at 3 (lit≤ tt), at 4 (lit≤ tt), at 5 (lit≤ tt), at 6 (lit≤ tt), at 7 (lit≤ tt))
  where
    at : (j : ℕ) → j < 8 → float_of (get_or bits j 0) ≡ get_or (map float_of (patterns_of width b n)) (8 * k + j) nan
    at j i =
        ap (λ (s : List ℕ). float_of (get_or s j 0)) is
        ∙ ap float_of (get_d_upto (λ (j : ℕ). pattern_at_of width b (8 * k + j)) 0 8 j i)
        ∙ sym (file_entry width n b k g float_of nan j i)
