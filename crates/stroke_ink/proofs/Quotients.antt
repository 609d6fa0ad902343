-- The parameters at which a stroke's line meets a slab's ends, by where these lie to the stroke's own ends: at most 0 where an end of the slab
-- is not past the first end of the stroke, and at least 1 where it is not before the second.
use mathlib.Core.Path.{◌≡◌, refl}
use mathlib.Core.Bool.{Bool, true, false}
use Prim.Native.Nat.{ℕ, ◌<◌}
use lib.IntN.{ℤ}
use lib.Ieee.{Float, fin, binary32, lt, is_nan, of_bits}
use lib.Ieee.Fits.{div-fits}
use Rattle.float.specs.Rounded.{◌⊖◌, ◌⊘◌, +0, one}
use Rattle.float.proofs.Order.{lt_not}
use Rattle.rounded.specs.Size.{Size}
use Rattle.rounded.proofs.Round.{signed_zero}
use Rattle.rounded.proofs.Order.{sub_order, div_order, div_turned}
use Rattle.rounded.proofs.Numbers.{sub_number, div_number}
use Rattle.rounded.proofs.Exact.{zero_over, sub_itself, over_itself}
use Rattle.stroke_ink.proofs.Ends.{Number, AtMost, AtLeast}

-- whether x comes before y in the direction of this sign
abbrev pub before : Bool → Float → Float → Bool
before false x y = lt x y
before true x y = lt y x

sub_before : (t : Bool) (x y z : Float) → before t y x ≡ false → before t (y ⊖ z) (x ⊖ z) ≡ false
sub_before false x y z h = sub_order x y z h
sub_before true x y z h = sub_order y x z h

div_before : (t : Bool) (x y : Float) (n : ℕ) (d : ℤ) → 0 < n → before t y x ≡ false → lt (y ⊘ fin t n d) (x ⊘ fin t n d) ≡ false
div_before false x y n d N h = div_order x y n d N h
div_before true x y n d N h = div_turned y x n d N h

past_zero : (t : Bool) (x : Float) → lt (signed_zero t) x ≡ false → lt +0 x ≡ false
past_zero t x h = lt_not +0 (signed_zero t) x (unfold is_nan in refl) (level t) h
  where
    level : (t : Bool) → lt +0 (signed_zero t) ≡ false
    level true = unfold lt of_bits in refl
    level false = unfold lt of_bits in refl

-- a stroke from p to q, which differ, and an end x of a slab
module _ (p q x : Float) (k : ℕ) (P : Size k p) (i : is_nan x ≡ false) (t : Bool) (n : ℕ) (d : ℤ) (N : 0 < n) (e : q ⊖ p ≡ fin t n d) where
  abbrev parameter : Float
  parameter = (x ⊖ p) ⊘ (q ⊖ p)

  held : Number parameter
  held = record { fit = div-fits binary32 (x ⊖ p) (q ⊖ p); number = rw e (div_number (x ⊖ p) t n d N (sub_number k x p i P)) }

  pub at_most : before t p x ≡ false → AtMost +0 parameter
  at_most h =
      let less = div_before t (x ⊖ p) (p ⊖ p) n d N (sub_before t x p p h) in
      record { held = held; not_past = past_zero t parameter (rw e (rw (sub_itself k p P, zero_over t n d N) at less)) }

  pub at_least : before t x q ≡ false → AtLeast one parameter
  at_least h =
      let less = div_before t (q ⊖ p) (x ⊖ p) n d N (sub_before t q x p h) in
      record { held = held; not_past = rw e (rw (e, over_itself t n d N) at less) }
