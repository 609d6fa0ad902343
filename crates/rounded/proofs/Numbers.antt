-- Which floats are numbers and not a NaN: those of a size, and rounded results.
use mathlib.Core.Path.{◌≡◌, refl, ap, ◌∙◌}
use mathlib.Core.Bool.{Bool, true, false, not, ◌&&◌, cond, beq}
use Prim.Native.Nat.{ℕ, suc, ◌+◌, ◌-◌, ◌*◌, ◌^◌, ◌<◌}
use native.Mathlib.Omega.{arith}
use borrow.Author.Tests.{ne_eqb}
use lib.IntN.{ℤ}
use lib.Dec.{ltb, eqb}
use lib.Ieee.{Float, nan, inf, fin, Format, binary32, prec, low, emax, unlike, up, down, odd, units, round, neg, sum, add, sub, div, is_nan}
use lib.Ieee.Fits.{round_is}
use Rattle.float.specs.Rounded.{◌⊖◌, ◌⊘◌}
use Rattle.float.proofs.Tests.{odd_number}
use Rattle.rounded.specs.Size.{Size}

pub sized_number : (k : ℕ) (x : Float) → Size k x → is_nan x ≡ false
unfolding is_nan
sized_number k nan h = absurd h
sized_number k (inf s) h = absurd h
sized_number k (fin s m e) h = refl

units_number : (f : Format) (s : Bool) (q k : ℕ) → is_nan (units f s q k) ≡ false
unfolding units
units_number f s q k = go (ltb (q * 2 ^ k) (2 ^ (low f + suc (emax f))))
  where
    go : (b : Bool) → is_nan (cond b (odd (suc (prec f)) s q k (low f)) (inf s)) ≡ false
    go true = odd_number (suc (prec f)) s q k (low f)
    go false = unfold is_nan in refl

round_number : (s : Bool) (a c : ℕ) → is_nan (round binary32 s a c) ≡ false
round_number s a c = ap is_nan (round_is binary32 s a c) ∙ units_number binary32 s _ _

sum_number : (s : Bool) (a : ℕ) (t : Bool) (b c : ℕ) → is_nan (sum binary32 s a t b c) ≡ false
unfolding sum
sum_number s a t b c = go (beq s t) (ltb a b)
  where
    go :
        (u v : Bool) →
        is_nan (cond u (round binary32 s (a + b) c) (cond v (round binary32 t (b - a) c) (round binary32 (s && ltb b a) (a - b) c))) ≡ false
    go true v = round_number s (a + b) c
    go false true = round_number t (b - a) c
    go false false = round_number (s && ltb b a) (a - b) c

-- a number less a finite one
pub sub_number : (k : ℕ) (x y : Float) → is_nan x ≡ false → Size k y → is_nan (x ⊖ y) ≡ false
unfolding sub add neg is_nan
sub_number k nan y h l = h
sub_number k (inf s) nan h l = absurd l
sub_number k (inf s) (inf t) h l = absurd l
sub_number k (inf s) (fin t n d) h l = refl
sub_number k (fin s m e) nan h l = absurd l
sub_number k (fin s m e) (inf t) h l = absurd l
sub_number k (fin s m e) (fin t n d) h l = sum_number s (m * up e * down d) (not t) (n * up d * down e) (down e * down d)

-- a number over a finite one that is not zero
pub div_number : (x : Float) (t : Bool) (n : ℕ) (d : ℤ) → 0 < n → is_nan x ≡ false → is_nan (x ⊘ fin t n d) ≡ false
unfolding div is_nan
div_number nan t n d N h = h
div_number (inf s) t n d N h = refl
div_number (fin s m e) t n d N h =
    let z : eqb n 0 ≡ false = ne_eqb n 0 (λ q. omega arith) in
    rw z (round_number (unlike s t) (m * up e * down d) (n * up d * down e))
