-- The order of the floats that are numbers: none is below itself, not both of two are below the other, and what is not below a
-- number that is not below a third is not below the third. No float is below the lower infinity, nor above the upper one.
use mathlib.Core.Path.{◌≡◌, refl, sym, ap, ◌∙◌}
use mathlib.Core.Bool.{Bool, true, false, true≢false}
use Prim.Native.Nat.{ℕ, ◌+◌, ◌*◌, ◌<◌}
use native.Mathlib.Nat.{add-mul, zero-mul, mul_right_comm, mul-lt-mul_of_pos_right, mul-le-mul_right}
use native.Mathlib.Omega.{arith}
use lib.Dec.{ltb}
use lib.Ieee.{Float, nan, inf, fin, up, down, below, lt, is_nan}
use lib.Ieee.Fits.{down_pos}
use borrow.Author.Tests.{ltb-true, ltb-false, lt-ltb, le-ltb}

-- ---- signed sizes

pub ltb_scaled : (a b k : ℕ) → 0 < k → ltb a b ≡ ltb (a * k) (b * k)
ltb_scaled a b k h = go (ltb a b) refl
  where
    go : (t : Bool) → ltb a b ≡ t → t ≡ ltb (a * k) (b * k)
    go true e = sym (lt-ltb (a * k) (b * k) (mul-lt-mul_of_pos_right (ltb-true a b e) h))
    go false e = sym (le-ltb (a * k) (b * k) (mul-le-mul_right k (ltb-false a b e)))

pub below_scaled : (s : Bool) (a : ℕ) (t : Bool) (b k : ℕ) → 0 < k → below s a t b ≡ below s (a * k) t (b * k)
below_scaled false a false b k h = ltb_scaled a b k h
below_scaled false a true b k h = refl
below_scaled true a false b k h = ltb_scaled 0 (a + b) k h ∙ ap (λ (n : ℕ). ltb (0 * k) n) (add-mul a b k) ∙ ap (λ (n : ℕ). ltb n (a * k + b * k)) (zero-mul k)
below_scaled true a true b k h = ltb_scaled b a k h

below_not : (s : Bool) (a : ℕ) (t : Bool) (b : ℕ) (u : Bool) (c : ℕ) → below s a t b ≡ false → below t b u c ≡ false → below s a u c ≡ false
below_not false a t b true c h k = refl
below_not false a false b false c h k = le-ltb a c (omega (arith, ltb-false a b h, ltb-false b c k))
below_not false a true b false c h k = le-ltb a c (omega (arith, ltb-false 0 (b + c) k))
below_not true a true b true c h k = le-ltb c a (omega (arith, ltb-false b a h, ltb-false c b k))
below_not true a false b true c h k = le-ltb c a (omega (arith, ltb-false 0 (a + b) h))
below_not true a true b false c h k = le-ltb 0 (a + c) (omega (arith, ltb-false b a h, ltb-false 0 (b + c) k))
below_not true a false b false c h k = le-ltb 0 (a + c) (omega (arith, ltb-false 0 (a + b) h, ltb-false b c k))

below_one_way : (s : Bool) (a : ℕ) (t : Bool) (b : ℕ) → below s a t b ≡ true → below t b s a ≡ false
below_one_way false a false b h = le-ltb b a (omega (arith, ltb-true a b h))
below_one_way false a true b h = absurd (true≢false (sym h))
below_one_way true a false b h = refl
below_one_way true a true b h = le-ltb a b (omega (arith, ltb-true b a h))

-- over one denominator
below_fractions :
    (s : Bool) (a c : ℕ) (t : Bool) (b d : ℕ) (u : Bool) (o f : ℕ) →
    0 < c →
    0 < d →
    0 < f →
    below s (a * d) t (b * c) ≡ false →
    below t (b * f) u (o * d) ≡ false →
    below s (a * f) u (o * c) ≡ false
below_fractions s a c t b d u o f C D F h k =
    below_scaled s (a * f) u (o * c) d D
    ∙ below_not s (a * f * d) t (b * c * f) u (o * c * d)
    (rw (mul_right_comm a f d) (sym (below_scaled s (a * d) t (b * c) f F) ∙ h))
    (rw (mul_right_comm b c f, mul_right_comm o c d) (sym (below_scaled t (b * f) u (o * d) c C) ∙ k))

-- ---- floats

pub lt_one_way : (x y : Float) → lt x y ≡ true → lt y x ≡ false
unfolding lt
lt_one_way nan y h = absurd (true≢false (sym h))
lt_one_way (inf s) nan h = refl
lt_one_way (inf true) (inf true) h = refl
lt_one_way (inf true) (inf false) h = refl
lt_one_way (inf false) (inf t) h = absurd (true≢false (sym h))
lt_one_way (inf true) (fin t n d) h = refl
lt_one_way (inf false) (fin t n d) h = absurd (true≢false (sym h))
lt_one_way (fin s m e) nan h = refl
lt_one_way (fin s m e) (inf true) h = absurd (true≢false (sym h))
lt_one_way (fin s m e) (inf false) h = refl
lt_one_way (fin s m e) (fin t n d) h = below_one_way s (m * up e * down d) t (n * up d * down e) h

pub lt_itself : (x : Float) → lt x x ≡ false
lt_itself x = go (lt x x) refl
  where
    go : (t : Bool) → lt x x ≡ t → t ≡ false
    go true h = sym h ∙ lt_one_way x x h
    go false h = refl

pub lt_not : (x y z : Float) → is_nan y ≡ false → lt x y ≡ false → lt y z ≡ false → lt x z ≡ false
unfolding lt is_nan
lt_not nan y z i h k = refl
lt_not (inf true) nan z i h k = absurd (true≢false i)
lt_not (fin s m e) nan z i h k = absurd (true≢false i)
lt_not (inf true) (inf true) z i h k = k
lt_not (inf true) (inf false) z i h k = absurd (true≢false h)
lt_not (inf true) (fin t n d) z i h k = absurd (true≢false h)
lt_not (inf false) y nan i h k = refl
lt_not (inf false) y (inf u) i h k = refl
lt_not (inf false) y (fin u o f) i h k = refl
lt_not (fin s m e) (inf true) nan i h k = refl
lt_not (fin s m e) (inf true) (inf u) i h k = k
lt_not (fin s m e) (inf true) (fin u o f) i h k = absurd (true≢false k)
lt_not (fin s m e) (inf false) z i h k = absurd (true≢false h)
lt_not (fin s m e) (fin t n d) nan i h k = refl
lt_not (fin s m e) (fin t n d) (inf u) i h k = k
lt_not (fin s m e) (fin t n d) (fin u o f) i h k =
    below_fractions s (m * up e) (down e) t (n * up d) (down d) u (o * up f) (down f) (down_pos e) (down_pos d) (down_pos f) h k

-- ---- the infinities

pub none_lower : (x : Float) → lt x (inf true) ≡ false
unfolding lt
none_lower nan = refl
none_lower (inf true) = refl
none_lower (inf false) = refl
none_lower (fin s m e) = refl

pub none_higher : (x : Float) → lt (inf false) x ≡ false
unfolding lt
none_higher nan = refl
none_higher (inf s) = refl
none_higher (fin s m e) = refl
