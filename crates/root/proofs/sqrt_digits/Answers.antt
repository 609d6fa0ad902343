use Rattle.std.proofs.Common.{◌≡◌, ℕ, true, false, refl, sym, ap, subst, ◌∙◌, rules}
use Rattle.std.specs.Prelude.{T, Float}
use Rattle.std.specs.Float.{nan, inf, fin, binary32}
use Rattle.std.specs.Float.Ieee.{fits, is_nan, of_bits, to_bits}
use Rattle.std.specs.Float.Ieee.Positive.{positive}
use denote.Floats.{passes}
use lib.Ieee.Bits.{to_bits-lt}
use Rattle.root.specs.Radicand.{radicand}
use Rattle.root.specs.Root.{nearest_root, sqrt_of}
use Rattle.root.specs.Promise.{SquareRoot}
use Rattle.root.specs.Digits.{DigitsWorked}
use Rattle.root.proofs.Units.{positive_root}
use Rattle.root.proofs.Nearest.{square_root}
use Rattle.root.proofs.Exact.{digits_worked}
use Rattle.root.proofs.Patterns.{from_bits}
use Rattle.root.proofs.Cases.{Unworked, root_nan, root_zero, root_minus_zero, positive_at, root_top, root_negative}
use Rattle.root.proofs.sqrt_digits.Goals as goal

-- an argument of type `f32` fits the format, so its bits give it back
own : (x : Float) → T (fits binary32 x) → x ≡ of_bits binary32 (to_bits binary32 x)
own x f = from_bits x (to_bits binary32 x) f refl

-- no digit is worked, as the argument is not both finite and above zero
unworked :
    {r v w : Float} {d : ℕ} (x : Float) → T (fits binary32 x) → x ≡ v → Unworked v w → r ≡ w → d ≡ 0 →
    SquareRoot x r × DigitsWorked x r d
unworked {r} x f e s same none =
    let is : r ≡ sqrt_of x = same ∙ sym (ap sqrt_of e ∙ s.0) in
    let other : positive x ≡ false = ap positive e ∙ s.1 in
    (square_root x r f is, digits_worked x f is (λ p. absurd (subst T other p)) (λ n. none))

nan_is : of_bits binary32 0x7fc0_0000 ≡ nan
unfolding of_bits
nan_is = refl

only_nan : (x : Float) → is_nan x ≡ true → x ≡ nan
unfolding is_nan
only_nan nan h = refl
only_nan (inf s) h = absurd (passes _ h)
only_nan (fin s m e) h = absurd (passes _ h)

pub returns-then-is_nan : goal.returns-then-is_nan
returns-then-is_nan c =
    let f : T (fits binary32 c.args.x) = passes _ c.well_formed.0.1 in
    let u = c.unworked.ensures in
    let is = only_nan c.args.x (sym c.is_nan.ensures.value ∙ c.if-is_nan.true) in
    let r = unworked c.args.x f is root_nan (u.0 ∙ is) u.1 in
    record { root = r.0; digits = r.1 }

pub returns-then-bits-eq0 : goal.returns-then-bits-eq0
returns-then-bits-eq0 c =
    let f : T (fits binary32 c.args.x) = passes _ c.well_formed.0.1 in
    let u = c.unworked-then-bits-eq0.ensures in
    let is = from_bits c.args.x 0 f c.if-bits-eq0.true in
    let r = unworked c.args.x f is root_zero (u.0 ∙ is) u.1 in
    record { root = r.0; digits = r.1 }

pub returns-then-bits : goal.returns-then-bits
returns-then-bits c =
    let f : T (fits binary32 c.args.x) = passes _ c.well_formed.0.1 in
    let u = c.unworked-then-bits.ensures in
    let is = from_bits c.args.x 0x8000_0000 f c.if-bits.true in
    let r = unworked c.args.x f is root_minus_zero (u.0 ∙ is) u.1 in
    record { root = r.0; digits = r.1 }

pub returns-then-bits-gt2147483648 : goal.returns-then-bits-gt2147483648
returns-then-bits-gt2147483648 c =
    let x = c.args.x in
    let f : T (fits binary32 x) = passes _ c.well_formed.0.1 in
    let u = c.unworked-then-bits-gt2147483648.ensures in
    let none = root_negative (to_bits binary32 x) c.if-bits-gt2147483648.true (to_bits-lt binary32 x f) in
    let r = unworked x f (own x f) none (u.0 ∙ nan_is) u.1 in
    record { root = r.0; digits = r.1 }

pub returns-then-bits-ge2139095040 : goal.returns-then-bits-ge2139095040
returns-then-bits-ge2139095040 c =
    let x = c.args.x in
    let f : T (fits binary32 x) = passes _ c.well_formed.0.1 in
    let u = c.unworked-then-bits-ge2139095040.ensures in
    let top = root_top (to_bits binary32 x) c.if-bits-ge2139095040.true (search rules) in
    let r = unworked x f (own x f) top (u.0 ∙ own x f) u.1 in
    record { root = r.0; digits = r.1 }

pub returns : goal.returns
returns c =
    let x = c.args.x in
    let b = to_bits binary32 x in
    let f : T (fits binary32 x) = passes _ c.well_formed.0.1 in
    let p = c.pack.ensures in
    let above : T (positive x) = subst (λ v. T (positive v)) (sym (own x f)) (positive_at b (search rules) (search rules)) in
    let value = c.unpack.ensures.value ∙ sym (ap radicand (own x f)) in
    let is = p.0 ∙ ap nearest_root value ∙ sym (positive_root x above) in
    record { root = square_root x _ f is; digits = digits_worked x f is (λ q. rw value at p.1) (λ no. absurd (subst T no above)) }
