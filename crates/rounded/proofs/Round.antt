-- A fraction between two f32 of one denominator rounds to an f32 between them: so between two whole numbers. Zero rounds to zero.
use mathlib.Core.Path.{◌≡◌, refl, sym, ◌∙◌, subst}
use mathlib.Core.Bool.{Bool, true, false, ◌&&◌, ◌||◌, true≢false}
use mathlib.Core.Logic.{◌⊎◌, inl, inr}
use Prim.Native.Nat.{ℕ, ◌*◌, ◌^◌, ◌≤◌, ◌<◌}
use native.Mathlib.Nat.{le_trans, le_of_eq, le_of_lt, mul-one, zero-mul, le_of_mul-le-mul_right}
use lib.IntN.{ℤ, pos}
use lib.Dec.{T, ltb, eqb, ltb→lt, eqb→eq, lit≤}
use lib.Ieee.{Float, nan, inf, fin, Format, binary32, up, down, round, neg, le, lt, eq}
use lib.Ieee.Fits.{down_pos, and_l}
use lib.Ieee.Exact.{HasValue}
use lib.Ieee.Order.{round_mono, transfer}
use lib.Ieee.Scale.{finite, round_same, round_under, round_val}
use lib.Ieee.Back.{round_whole}
use Rattle.float.proofs.Negated.{neg_round}

-- ---- the order, of values that are not negative

either : (a b : Bool) → T (a || b) → T a ⊎ T b
either true b t = inl tt
either false b t = inr t

pub le_num : (m : ℕ) (e : ℤ) (n : ℕ) (d : ℤ) → T (le (fin false m e) (fin false n d)) → m * up e * down d ≤ n * up d * down e
unfolding le lt eq
le_num m e n d t =
    let a = m * up e * down d in
    let b = n * up d * down e in
    elim (either (ltb a b) (eqb a b && true) t) [
      | inl l ↦ le_of_lt (ltb→lt a b l)
      | inr q ↦ le_of_eq (eqb→eq a b (and_l (eqb a b) true q))
    ]

-- ---- between two fractions of the denominator g that are f32

-- x is finite, has the sign s, and is from p / g to q / g in size
abbrev pub MagOver : ℕ → Bool → ℕ → ℕ → Float → Type 0
MagOver g s p q nan = ⊥
MagOver g s p q (inf t) = ⊥
MagOver g s p q (fin t m e) = (t ≡ s) × (p * down e ≤ m * up e * g) × (m * up e * g ≤ q * down e)

-- what lies between two of them is finite
inner : (u w x : Float) (g p q : ℕ) → HasValue u false p g → HasValue w false q g → T (le u x) → T (le x w) → T (finite x)
unfolding le lt eq
inner nan w x g p q hu hw a b = absurd hu
inner (inf s) w x g p q hu hw a b = absurd hu
inner (fin s m e) nan x g p q hu hw a b = absurd hw
inner (fin s m e) (inf t) x g p q hu hw a b = absurd hw
inner (fin s m e) (fin t n d) nan g p q hu hw a b = absurd a
inner (fin s m e) (fin t n d) (inf true) g p q hu hw a b = absurd a
inner (fin s m e) (fin t n d) (inf false) g p q hu hw a b = absurd b
inner (fin s m e) (fin t n d) (fin r k j) g p q hu hw a b = tt

mag_of :
    (u w x : Float) (g p q v l : ℕ) →
    HasValue u false p g →
    HasValue w false q g →
    HasValue x false v l →
    T (le u x) →
    T (le x w) →
    MagOver g false p q x
mag_of nan w x g p q v l hu hw hx a b = absurd hu
mag_of (inf s) w x g p q v l hu hw hx a b = absurd hu
mag_of (fin true m e) w x g p q v l hu hw hx a b = absurd (true≢false hu.0)
mag_of (fin false m e) nan x g p q v l hu hw hx a b = absurd hw
mag_of (fin false m e) (inf t) x g p q v l hu hw hx a b = absurd hw
mag_of (fin false m e) (fin true n d) x g p q v l hu hw hx a b = absurd (true≢false hw.0)
mag_of (fin false m e) (fin false n d) nan g p q v l hu hw hx a b = absurd hx
mag_of (fin false m e) (fin false n d) (inf t) g p q v l hu hw hx a b = absurd hx
mag_of (fin false m e) (fin false n d) (fin true k j) g p q v l hu hw hx a b = absurd (true≢false hx.0)
mag_of (fin false m e) (fin false n d) (fin false k j) g p q v l hu hw hx a b = (
  refl,
  transfer p (k * up j) g (down j) (m * up e) (k * up j) (down e) (down j) (down_pos e) (down_pos j) (sym hu.1) refl (le_num m e k j a),
  transfer (k * up j) q (down j) g (k * up j) (n * up d) (down j) (down d) (down_pos j) (down_pos d) refl (sym hw.1) (le_num k j n d b),
)

neg_over : (g p q : ℕ) (x : Float) → MagOver g false p q x → MagOver g true p q (neg x)
unfolding neg
neg_over g p q nan h = h
neg_over g p q (inf s) h = h
neg_over g p q (fin true m e) h = absurd (true≢false h.0)
neg_over g p q (fin false m e) h = (refl, h.1, h.2)

-- a / c from p / g to q / g rounds to a value from p / g to q / g, in either format
pub over :
    (f : Format) (g a c p q : ℕ) →
    0 < g →
    0 < c →
    HasValue (round f false p g) false p g →
    HasValue (round f false q g) false q g →
    p * c ≤ a * g →
    a * g ≤ q * c →
    MagOver g false p q (round f false a c)
over f g a c p q G C u w lo hi =
    let below : T (le (round f false p g) (round f false a c)) = round_mono f p g a c G C lo in
    let above : T (le (round f false a c) (round f false q g)) = round_mono f a c q g C G hi in
    mag_of _ _ (round f false a c) g p q _ _ u w
    (round_val f a c (round_under f a c (inner _ _ (round f false a c) g p q u w below above))) below above

module _ (g a c p q : ℕ) (G : 0 < g) (C : 0 < c) (u : HasValue (round binary32 false p g) false p g) (w : HasValue (round binary32 false q g) false q g)
    (lo : p * c ≤ a * g) (hi : a * g ≤ q * c) where
  plus_over : MagOver g false p q (round binary32 false a c)
  plus_over = over binary32 g a c p q G C u w lo hi

  pub round_over : (s : Bool) → MagOver g s p q (round binary32 s a c)
  round_over false = plus_over
  round_over true = subst (MagOver g true p q) (neg_round binary32 false a c) (neg_over g p q (round binary32 false a c) plus_over)

-- ---- between two whole numbers

-- x is finite, has the sign s, and is from p to q in size
abbrev pub Mag : Bool → ℕ → ℕ → Float → Type 0
Mag s p q nan = ⊥
Mag s p q (inf t) = ⊥
Mag s p q (fin t m e) = (t ≡ s) × (p * down e ≤ m * up e) × (m * up e ≤ q * down e)

whole : (s : Bool) (p q : ℕ) (x : Float) → MagOver 1 s p q x → Mag s p q x
whole s p q nan h = h
whole s p q (inf t) h = h
whole s p q (fin t m e) h = simp mul-one at h

-- a / c from p to q rounds to a value from p to q
pub round_mag : (s : Bool) (a c p q : ℕ) → 0 < c → p * c ≤ a → a ≤ q * c → q ≤ 2 ^ 24 → Mag s p q (round binary32 s a c)
round_mag s a c p q C lo hi top =
    let low_fits : p ≤ 2 ^ 24 = le_trans (le_of_mul-le-mul_right (le_trans lo hi) C) top in
    whole s p q (round binary32 s a c)
    (round_over 1 a c p q (lit≤ tt) C (round_whole binary32 false p low_fits) (round_whole binary32 false q top) (rw mul-one lo) (rw mul-one hi) s)

-- ---- zero, of either sign

abbrev pub signed_zero : Bool → Float
signed_zero s = fin s 0 (pos 0)

pub round_zero : (s : Bool) (c : ℕ) → 0 < c → round binary32 s 0 c ≡ signed_zero s
round_zero s c C = round_same binary32 s 0 c 0 1 C (lit≤ tt) (sym (zero-mul c)) ∙ whole_zero s
  where
    whole_zero : (s : Bool) → round binary32 s 0 1 ≡ signed_zero s
    whole_zero true = unfold round in refl
    whole_zero false = unfold round in refl
