-- How long a report is, and what the list and the count are after it.
use mathlib.Core.Path.{◌≡◌, refl, sym, ap, ◌∙◌}
use mathlib.Core.List.{List, ◌++◌, map}
use Prim.Native.Nat.{ℕ, zero, suc, ◌+◌, ◌*◌, ◌<◌, ◌≤◌}
use native.Mathlib.Omega.{arith}
use lib.ListN.{length, take, length-append}
use lib.Ieee.{Float}
use Rattle.lists.specs.Lent.{written}
use Rattle.slabs.specs.declared.crossing.Edge.{Edge}
use Rattle.slabs.specs.declared.crossing.Edge.TheVariants.{None, Left, Right, Lower, Upper, Near, Far}
use Rattle.slabs.specs.declared.crossing.Crossing.{Crossing}
use Rattle.slabs.specs.declared.crossing.Crossing.TheVariants.{Miss, Hit}
use Rattle.text.specs.Page.{Page, page, puts}
use Rattle.text.specs.Ascii.{ascii}
use Rattle.text.specs.Numbers.{decimal, hex8}
use Rattle.text.proofs.Laws.{whole}
use Rattle.text.proofs.Decimal.{decimal_4, decimal_5}
use Rattle.hatch_format.specs.Format.{hsl, rows, head_of}
use Rattle.hatch_format.specs.Decode.{Answer, body_of, decode, patterns_of, float_of}
use Rattle.hatch_format.proofs.Bounds.{Bounded, bounded}
use Rattle.hatch_format.specs.declared.header.Head.{Head}
use Rattle.std.specs.Prelude.{Result, Ok, Err}
use Rattle.types.specs.Refusal.{number_of}
use Rattle.types.specs.declared.refusal.RefusalAt.{RefusalAt}
use Rattle.report.specs.declared.TheConstants.{REPORT_MAX}
use Rattle.report.specs.Report.{clip_at, field_of, end_of, letter_of, line_of, lines_of, opening_of, refusal_of, text_of, report_of}

end_length : (x : Float) → length (end_of x) ≡ 9
unfolding end_of hex8
end_length x = refl

letter_length : (e : Edge) → length (letter_of e) ≡ 2
unfolding letter_of
letter_length None = refl
letter_length Left = refl
letter_length Right = refl
letter_length Lower = refl
letter_length Upper = refl
letter_length Near = refl
letter_length Far = refl

-- the space, and at most k digits
field_length : (n k : ℕ) → length (decimal n) ≤ k → length (field_of n) ≤ suc k
unfolding field_of
field_length n k h = omega arith

line_length : (i : ℕ) (t : Crossing) → i < 10000 → length (line_of i t) ≤ 29
unfolding line_of
line_length i Miss h = omega (arith, length-append (decimal i) (ascii " miss\n"), decimal_4 i h)
line_length i (Hit a b e) h =
    omega (
      arith,
      length-append (decimal i) (ascii " hit" ++ (end_of a ++ (end_of b ++ (letter_of e ++ ascii "\n")))),
      length-append (end_of a) (end_of b ++ (letter_of e ++ ascii "\n")),
      length-append (end_of b) (letter_of e ++ ascii "\n"),
      length-append (letter_of e) (ascii "\n"),
      end_length a,
      end_length b,
      letter_length e,
      decimal_4 i h,
    )

lines_length : (fs : List Float) (n : ℕ) → n ≤ 2000 → length (lines_of fs n) ≤ 29 * n
unfolding lines_of
lines_length fs zero h = omega arith
lines_length fs (suc n) h =
    omega (
      arith,
      length-append (lines_of fs n) (line_of (n + 1) (clip_at fs n)),
      line_length (n + 1) (clip_at fs n) (omega arith),
      lines_length fs n (omega arith),
    )

text_length : (a : Answer) → Bounded a → length (text_of a) ≤ REPORT_MAX
unfolding Bounded text_of opening_of refusal_of
text_length (Err at) s =
    omega (
      arith,
      length-append (field_of (number_of at.refusal)) (field_of at.place ++ ascii "\n"),
      length-append (field_of at.place) (ascii "\n"),
      field_length (number_of at.refusal) 4 (decimal_4 (number_of at.refusal) (omega (arith, s.0))),
      field_length at.place 5 (decimal_5 at.place (omega (arith, s.1))),
    )
text_length (Ok c) s =
    omega (
      arith,
      length-append (opening_of c.version c.count) (lines_of (map float_of c.patterns) c.count),
      length-append (field_of c.version) (field_of c.count ++ ascii "\n"),
      length-append (field_of c.count) (ascii "\n"),
      field_length c.version 4 (decimal_4 c.version s.0),
      field_length c.count 4 (decimal_4 c.count (omega (arith, s.1))),
      lines_length (map float_of c.patterns) c.count s.1,
      s.1,
    )

-- a page on which the report was put, first of all: l is the list lent, and l' what it holds then
module _ (b l l' : List ℕ) (size : ℕ) (short : length l ≤ 0xffff_ffff_ffff_ffff) (text : page l' size ≡ puts (page l 0) (report_of b)) where
  few : length (report_of b) ≤ REPORT_MAX
  unfolding report_of
  few = text_length (decode hsl rows b) (bounded b)

  all : page l' size ≡ page (written (take (length l) (report_of b)) l) (length (report_of b))
  all = text ∙ whole (report_of b) l (omega (arith, few)) short

  pub size_is : size ≡ length (report_of b)
  size_is = ap (λ (p : Page). p.size) all

  pub list_is : l' ≡ written (take (length l) (report_of b)) l
  list_is = ap (λ (p : Page). p.bytes) all

  pub size_below : size ≤ REPORT_MAX
  size_below = omega (arith, size_is, few)

-- r is the answer of the call that gives the header, and a match has found what r is
module _ (b : List ℕ) {r : Result Head RefusalAt} (is : r ≡ head_of hsl rows b) where
  pub refusal : {at : RefusalAt} → r ≡ Err at → refusal_of at ≡ report_of b
  unfolding report_of decode body_of text_of
  refusal e = ap (λ (x : Result Head RefusalAt). text_of (body_of x b)) (sym e ∙ is)

  pub records : {h : Head} → r ≡ Ok h → opening_of h.row.version h.count ++ lines_of (map float_of (patterns_of h.row.width b h.count)) h.count ≡ report_of b
  unfolding report_of decode body_of text_of
  records e = ap (λ (x : Result Head RefusalAt). text_of (body_of x b)) (sym e ∙ is)
