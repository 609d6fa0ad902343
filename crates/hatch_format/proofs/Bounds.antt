-- The numbers that an answer can have.
use mathlib.Core.Path.{◌≡◌, refl, subst}
use mathlib.Core.Bool.{Bool, true, false, cond}
use mathlib.Core.List.{List}
use Prim.Native.Nat.{ℕ, ◌*◌, ◌<◌, ◌≤◌}
use native.Mathlib.Nat.{mul-le-mul_left}
use native.Mathlib.Omega.{arith}
use lib.Dec.{ltb, eqb, lit≤}
use lib.ListN.{length}
use borrow.Author.Tests.{ltb-false}
use Rattle.lists.proofs.Fill.{length_upto}
use Rattle.hatch_format.specs.Bytes.{half_at, starts_with_of}
use Rattle.hatch_format.specs.Format.{hsl, rows, layout_of, expected_length, wrong_length_of, sized_of, versioned_of, head, head_of}
use Rattle.hatch_format.specs.Decode.{pattern_at_of, Answer, body_of, decode}
use Rattle.hatch_format.specs.declared.header.Row.{Row}
use Rattle.hatch_format.specs.declared.header.Head.{Head}
use Rattle.hatch_format.specs.declared.header.TheConstants.{BYTES_MAX}
use Rattle.std.specs.Prelude.{Option, None, Some, Result, Ok, Err}
use Rattle.types.specs.declared.refusal.Refusal.TheVariants.{Mark, Count}
use Rattle.types.specs.declared.refusal.RefusalAt.{RefusalAt}
use Rattle.types.specs.Refusal.{number_of, refusal_at}
use Rattle.hatch_format.proofs.Table.{Fine, fine, found}
use Rattle.hatch_format.proofs.Accepted.{accepted_file}

-- a refusal's number is one of a hatch list's, and its byte is in the longest file or that file's end
unfoldable Numbered : Result Head RefusalAt → Type 0
Numbered (Err at) = (number_of at.refusal ≤ 13) × (at.place ≤ BYTES_MAX)
Numbered (Ok h) = Unit

either : (t : Bool) (g h : Result Head RefusalAt) → (t ≡ true → Numbered g) → (t ≡ false → Numbered h) → Numbered (cond t g h)
either true g h x y = x refl
either false g h x y = y refl

length_numbered : (size expected : ℕ) → expected ≤ BYTES_MAX → Numbered (Err (wrong_length_of size expected))
unfolding Numbered
length_numbered size expected h = (lit≤ tt, omega arith)

-- no accepted count makes a longer file
pub expected_short : (r : Row) (n : ℕ) → Fine r → n ≤ r.limit → expected_length r n ≤ BYTES_MAX
expected_short r n f h = omega (arith, mul-le-mul_left r.width h, f.short)

sized_numbered : (r : Row) (size n : ℕ) → Fine r → Numbered (sized_of r size n)
unfolding Numbered sized_of
sized_numbered r size n f =
    either (ltb r.limit n) (Err (refusal_at Count 5)) _ (λ _. (lit≤ tt, lit≤ tt))
    λ t. either (eqb size (expected_length r n)) (head r n) _ (λ _. tt)
    λ _. length_numbered size (expected_length r n) (expected_short r n f (ltb-false r.limit n t))

versioned_numbered : (l : Option Row) (size n : ℕ) → ((r : Row) → l ≡ Some r → Fine r) → Numbered (versioned_of l size n)
unfolding Numbered versioned_of
versioned_numbered None size n f = (lit≤ tt, lit≤ tt)
versioned_numbered (Some r) size n f = sized_numbered r size n (f r refl)

head_numbered : (b : List ℕ) → Numbered (head_of hsl rows b)
unfolding Numbered head_of
head_numbered b =
    either (starts_with_of hsl b) _ (Err (refusal_at Mark 0))
    (λ _. either (ltb (length b) 7) _ _ (λ _. length_numbered (length b) 7 (lit≤ tt))
    λ _. versioned_numbered (layout_of rows (half_at b 3)) (length b) (half_at b 5) (λ r e. (found Fine rows (half_at b 3) r fine e).0))
    (λ _. (lit≤ tt, lit≤ tt))

-- the numbers of a hatch list
unfoldable pub Bounded : Answer → Type 0
Bounded (Err at) = (number_of at.refusal ≤ 13) × (at.place ≤ BYTES_MAX)
Bounded (Ok c) = (c.version < 10000) × (c.count ≤ 2000) × (length c.patterns ≡ 8 * c.count)

body_bounded : (b : List ℕ) (h : Result Head RefusalAt) → head_of hsl rows b ≡ h → Bounded (body_of h b)
unfolding body_of Bounded Numbered
body_bounded b (Err at) e = subst Numbered e (head_numbered b)
body_bounded b (Ok h) e =
    let f = accepted_file hsl rows b h.row h.count e in
    let x = found Fine rows (half_at b 3) h.row fine f.row in
    (x.0.digits, omega (arith, f.few, x.0.few), length_upto (pattern_at_of h.row.width b) (8 * h.count))

pub bounded : (b : List ℕ) → Bounded (decode hsl rows b)
unfolding decode
bounded b = body_bounded b (head_of hsl rows b) refl
