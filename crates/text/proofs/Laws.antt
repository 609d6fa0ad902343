-- How texts follow each other on a page, and what a page holds.
use mathlib.Core.Path.{◌≡◌, refl, sym, ap, ◌∙◌}
use mathlib.Core.List.{List, [], ◌∷◌, ◌++◌}
use Prim.Native.Nat.{ℕ, suc, ◌+◌, ◌-◌, ◌<◌, ◌≤◌, min}
use native.Mathlib.Nat.{add-zero}
use native.Mathlib.Numerals.{add-one}
use native.Mathlib.Decide.{dec_lt}
use native.Mathlib.Omega.{arith}
use lib.ListN.{length, set, take, drop, get_or, length-set, length-append, length-drop, take-append-drop}
use lib.Seq.{sets, set_out, length-sets, take-suc}
use borrow.Author.Tests.{lt-ltb, le-ltb}
use Rattle.lists.specs.Lent.{written}
use Rattle.lists.proofs.Lent.{sets_written}
use Rattle.text.specs.Page.{Page, page, next_of, put, puts, page_of, Adds}
use Rattle.text.specs.declared.Page.{Page as Lent}

pub puts_append : (p : Page) (s t : List ℕ) → puts p (s ++ t) ≡ puts (puts p s) t
unfolding puts
puts_append p [] t = refl
puts_append p (c ∷ s) t = puts_append (put p c) s t

-- the length of a text so far, at most the greatest usize
abbrev pub counted : ℕ → ℕ
counted n = min n 0xffff_ffff_ffff_ffff

next_counted : (i : ℕ) → i ≤ 0xffff_ffff_ffff_ffff → next_of i ≡ counted (i + 1)
unfolding next_of
next_counted i h = elim (dec_lt i 0xffff_ffff_ffff_ffff) [
  | yes a ↦ rw (lt-ltb i 0xffff_ffff_ffff_ffff a) (omega arith)
  | no b ↦ rw (le-ltb i 0xffff_ffff_ffff_ffff (omega arith)) (omega arith)
]

-- a text whose end has room
puts_in : (s l : List ℕ) (i : ℕ) → i + length s ≤ length l → length l ≤ 0xffff_ffff_ffff_ffff → puts (page l i) s ≡ page (sets l i s) (i + length s)
unfolding put puts
puts_in [] l i h g = ap (page l) (sym (add-zero i))
puts_in (c ∷ s) l i h g =
    let next : next_of i ≡ suc i = next_counted i (omega arith) ∙ omega arith in
    ap (λ (k : ℕ). puts (page (set l i c) k) s) next
    ∙ puts_in s (set l i c) (suc i) (omega (arith, length-set l i c)) (omega (arith, length-set l i c))
    ∙ ap (page (sets (set l i c) (suc i) s)) (omega arith)

-- a text whose start has none: the list stays
puts_out : (s l : List ℕ) (i : ℕ) → (0 < length s → length l ≤ i) → i ≤ 0xffff_ffff_ffff_ffff → puts (page l i) s ≡ page l (counted (i + length s))
unfolding put puts
puts_out [] l i h g = ap (page l) (omega arith)
puts_out (c ∷ s) l i h g =
    ap (λ (t : List ℕ). puts (page t (next_of i)) s) (set_out l i c (h (omega arith)))
    ∙ ap (λ (k : ℕ). puts (page l k) s) (next_counted i g)
    ∙ puts_out s l (counted (i + 1)) (λ _. omega (arith, h (omega arith))) (omega arith)
    ∙ ap (page l) (omega arith)

pub past : (s l : List ℕ) (i : ℕ) → length l ≤ i → i ≤ 0xffff_ffff_ffff_ffff → page l (counted (i + length s)) ≡ puts (page l i) s
past s l i h g = sym (puts_out s l i (λ _. h) g)

-- ---- a byte

pub byte_in : (l : List ℕ) (i c : ℕ) → i ≤ 0xffff_ffff_ffff_ffff → page (set l i c) (counted (i + 1)) ≡ puts (page l i) (c ∷ [])
unfolding put puts
byte_in l i c h = ap (page (set l i c)) (sym (next_counted i h))

pub byte_out : (l : List ℕ) (i c : ℕ) → i ≤ 0xffff_ffff_ffff_ffff → length l ≤ i → page l (counted (i + 1)) ≡ puts (page l i) (c ∷ [])
unfolding put puts
byte_out l i c h g = ap (λ (t : List ℕ). page t (counted (i + 1))) (sym (set_out l i c g)) ∙ ap (page (set l i c)) (sym (next_counted i h))

-- ---- one text after the other, on a lent page

pub none : (p : Lent) → Adds p [] p
unfolding puts
none p = record { text = refl; lent = refl }

pub many : {p q r : Lent} (s t : List ℕ) → Adds p s q → Adds q t r → Adds p (s ++ t) r
many {p} {q} {r} s t e rest = record {
  text = rest.text ∙ ap (λ (x : Page). puts x t) e.text ∙ sym (puts_append (page_of p) s t);
  lent = rest.lent ∙ e.lent;
}

-- one more byte of a list
pub more : {p q r : Lent} (s : List ℕ) (i : ℕ) → i < length s → Adds p (take i s) q → Adds q (get_or s i 0 ∷ []) r → Adds p (take (i + 1) s) r
more s i h e f = rw (add-one i, take-suc s i 0 h) (many (take i s) (get_or s i 0 ∷ []) e f)

-- the same text, written in another way
pub same : {p q : Lent} {s t : List ℕ} → s ≡ t → Adds p s q → Adds p t q
same {p} {q} {s} {t} e h = record { text = h.text ∙ ap (puts (page_of p)) e; lent = h.lent }

-- as much of a text as has room stands at the front, the rest of the list is as it was, and all of it is counted
pub whole : (s l : List ℕ) → length s ≤ 0xffff_ffff_ffff_ffff → length l ≤ 0xffff_ffff_ffff_ffff
    → puts (page l 0) s ≡ page (written (take (length l) s) l) (length s)
whole s l h short =
    let n = length l in
    let a = take n s in
    let b = drop n s in
    let sum : length (take n s) + length (drop n s) ≡ length s = sym (length-append a b) ∙ ap length (take-append-drop n s) in
    let rest : length (drop n s) ≡ length s - n = length-drop n s in
    ap (puts (page l 0)) (sym (take-append-drop n s))
    ∙ puts_append (page l 0) a b
    ∙ ap (λ (p : Page). puts p b) (puts_in a l 0 (omega (arith, sum, rest)) short)
    ∙ puts_out b (sets l 0 a) (0 + length a) (λ some. omega (arith, sum, rest, length-sets l 0 a)) (omega (arith, sum, rest))
    ∙ ap (λ (k : ℕ). page (sets l 0 a) k) (omega (arith, sum))
    ∙ ap (λ (t : List ℕ). page t (length s)) (sets_written a l (omega (arith, sum, rest)))
