-- When one test is enough for the minimum and the maximum, and which results are numbers.
use mathlib.Core.Path.{◌≡◌, refl, sym}
use mathlib.Core.Bool.{Bool, true, false, cond}
use lib.Ieee.{Float, nan, inf, fin, lt, is_nan}
use Rattle.float.specs.Values.{min_of, max_of, lesser_of, greater_of, number_or_of}

-- a number's minimum is one test
pub lesser_min : (a b : Float) → is_nan a ≡ false → lesser_of a b ≡ min_of a b
unfolding lesser_of min_of
lesser_min a b h = simp h

pub greater_max : (a b : Float) → is_nan a ≡ false → greater_of a b ≡ max_of a b
unfolding greater_of max_of
greater_max a b h = simp h

either : (t : Bool) (x : Float) → cond t x x ≡ x
either true x = refl
either false x = refl

-- with b in the place of a NaN one test is enough too
pub mended_min : (a b : Float) → lesser_of (number_or_of a b) b ≡ min_of a b
unfolding lesser_of min_of number_or_of is_nan
mended_min nan b = either (lt b b) b
mended_min (inf s) b = refl
mended_min (fin s m e) b = refl

pub mended_max : (a b : Float) → greater_of (number_or_of a b) b ≡ max_of a b
unfolding greater_of max_of number_or_of is_nan
mended_max nan b = either (lt b b) b
mended_max (inf s) b = refl
mended_max (fin s m e) b = refl

-- what is above or below something is a number
pub above_number : (a b : Float) → lt a b ≡ true → is_nan b ≡ false
unfolding lt is_nan
above_number a (inf s) h = refl
above_number a (fin s m e) h = refl
above_number nan nan h = sym h
above_number (inf s) nan h = sym h
above_number (fin s m e) nan h = sym h

pub below_number : (a b : Float) → lt a b ≡ true → is_nan a ≡ false
unfolding lt is_nan
below_number nan nan h = sym h
below_number nan (inf s) h = sym h
below_number nan (fin s m e) h = sym h
below_number (inf s) b h = refl
below_number (fin s m e) b h = refl

kept : (t : Bool) (a b : Float) → is_nan a ≡ false → (t ≡ true → is_nan b ≡ false) → is_nan (cond t b a) ≡ false
kept true a b h k = k refl
kept false a b h k = h

pub lesser_number : (a b : Float) → is_nan a ≡ false → is_nan (lesser_of a b) ≡ false
unfolding lesser_of
lesser_number a b h = kept (lt b a) a b h (below_number b a)

pub greater_number : (a b : Float) → is_nan a ≡ false → is_nan (greater_of a b) ≡ false
unfolding greater_of
greater_number a b h = kept (lt a b) a b h (above_number a b)
