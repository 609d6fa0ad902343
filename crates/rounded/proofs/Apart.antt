-- The rounded difference of two unlike f32 is not zero: the exact one is at least 2 ^ -149, and so is what it rounds to.
use mathlib.Core.Path.{◌≡◌, refl, sym, ap, ◌∙◌, subst}
use mathlib.Core.Bool.{Bool, true, false, not, ◌&&◌, ◌||◌, cond, beq, true≢false}
use mathlib.Core.Logic.{◌⊎◌, inl, inr}
use Prim.Native.Nat.{ℕ, zero, suc, ◌+◌, ◌-◌, ◌*◌, ◌^◌, ◌≤◌, ◌<◌}
use native.Mathlib.Nat.{le_trans, le_of_eq, zero-lt-suc, one-mul, zero-mul, mul-pos, mul_comm, mul_assoc, mul_right_comm, add-mul, mul-sub, suc-mul, eq-or-lt_of_le}
use native.Mathlib.Omega.{arith}
use borrow.Author.Tests.{ltb-true, ltb-false, eq-eqb}
use lib.IntN.{negsuc}
use lib.Pow.{pow_pos}
use lib.Dec.{T, ltb, eqb, eqb→eq}
use lib.Ieee.{Float, nan, inf, fin, binary32, up, down, round, neg, sum, add, sub, lt, le, eq, fits}
use lib.Ieee.Fits.{down_pos, and_r}
use lib.Ieee.Order.{round_mono}
use Rattle.float.specs.Rounded.{◌⊖◌}
use Rattle.float.proofs.Negated.{neg_round}
use Rattle.float.proofs.Units.{InUnits, in_units_lem}
use Rattle.rounded.proofs.Round.{le_num}
use Rattle.rounded.specs.Size.{Size}

-- a number that is not zero
abbrev pub NonZero : Float → Type 0
NonZero nan = ⊥
NonZero (inf s) = Unit
NonZero (fin s m e) = 0 < m

-- ---- a fraction of at least 2 ^ -149 does not round to zero

abbrev least : Float
least = fin false 1 (negsuc 148)

least_is : round binary32 false 1 (2 ^ 149) ≡ least
unfolding round
least_is = refl

above_least : (x : Float) → T (le least x) → NonZero x
unfolding le lt eq
above_least nan t = absurd t
above_least (inf s) t = tt
above_least (fin s (suc m) e) t = zero-lt-suc m
above_least (fin true zero e) t = absurd (no (down e) (0 * up e * 2 ^ 149) (down_pos e) t)
  where
    no : (d b : ℕ) → 0 < d → T (eqb (1 * d) b && (false || eqb (1 * d) 0)) → ⊥
    no d b p t = omega (arith, eqb→eq (1 * d) 0 (and_r (eqb (1 * d) b) (false || eqb (1 * d) 0) t))
above_least (fin false zero e) t = absurd (no (down e) (up e) (2 ^ 149) (down_pos e) (le_num 1 (negsuc 148) 0 e t))
  where
    no : (d u w : ℕ) → 0 < d → 1 * d ≤ 0 * u * w → ⊥
    no d u w p t = omega (arith, ap (λ (z : ℕ). z * w) (zero-mul u), zero-mul w)

nonzero_neg : (x : Float) → NonZero x → NonZero (neg x)
unfolding neg
nonzero_neg nan h = h
nonzero_neg (inf s) h = h
nonzero_neg (fin s m e) h = h

pub nonzero_round : (s : Bool) (a c : ℕ) → 0 < c → c ≤ a * 2 ^ 149 → NonZero (round binary32 s a c)
nonzero_round s a c p h = go s
  where
    plain : NonZero (round binary32 false a c)
    plain =
        above_least (round binary32 false a c) (subst (λ (z : Float). T (le z (round binary32 false a c))) least_is
        (round_mono binary32 1 (2 ^ 149) a c (pow_pos 149) p (le_trans (le_of_eq (one-mul c)) h)))

    go : (s : Bool) → NonZero (round binary32 s a c)
    go false = plain
    go true = subst (λ (z : Float). NonZero z) (neg_round binary32 false a c) (nonzero_neg (round binary32 false a c) plain)

-- ---- the exact difference is at least 2 ^ -149

-- the sum of A and B, or the difference of the two
abbrev OneOf : ℕ → ℕ → ℕ → Type 0
OneOf A B R = (R ≡ A + B) ⊎ ((R ≡ A - B) ⊎ (R ≡ B - A))

at_least : (r C R : ℕ) → R ≡ r * C → 0 < R → C ≤ R
at_least zero C R e h = absurd (omega (arith, zero-mul C))
at_least (suc r) C R e h = omega (arith, suc-mul r C)

pub sub_mul : (a b c : ℕ) → (a - b) * c ≡ a * c - b * c
sub_mul a b c = mul_comm (a - b) c ∙ mul-sub c a b ∙ omega (arith, mul_comm c a, mul_comm c b)

-- P / E and Q / D are whole multiples of 1 / U, and so is their sum or difference R / (D * E)
enough : (P Q D E U X Y R : ℕ) → 0 < U → P * U ≡ X * E → Q * U ≡ Y * D → OneOf (P * D) (Q * E) R → 0 < R → D * E ≤ R * U
enough P Q D E U X Y R u p q f h = go f
  where
    C : ℕ
    C = D * E

    first : P * D * U ≡ X * C
    first = mul_right_comm P D U ∙ ap (λ (z : ℕ). z * D) p ∙ mul_right_comm X E D ∙ mul_assoc X D E

    second : Q * E * U ≡ Y * C
    second = mul_right_comm Q E U ∙ ap (λ (z : ℕ). z * E) q ∙ mul_assoc Y D E

    scaled : {z : ℕ} → R ≡ z → R * U ≡ z * U
    scaled e = ap (λ (k : ℕ). k * U) e

    go : OneOf (P * D) (Q * E) R → C ≤ R * U
    go (inl e) = at_least (X + Y) C (R * U) (scaled e ∙ omega (arith, add-mul (P * D) (Q * E) U, add-mul X Y C, first, second)) (mul-pos h u)
    go (inr (inl e)) = at_least (X - Y) C (R * U) (scaled e ∙ omega (arith, sub_mul (P * D) (Q * E) U, sub_mul X Y C, first, second)) (mul-pos h u)
    go (inr (inr e)) = at_least (Y - X) C (R * U) (scaled e ∙ omega (arith, sub_mul (Q * E) (P * D) U, sub_mul Y X C, first, second)) (mul-pos h u)

-- ---- the two together

unlike_level : (p q : ℕ) → (eqb p q && true) ≡ false → p ≡ q → ⊥
unlike_level p q h e = true≢false (sym (ap (λ (t : Bool). t && true) (eq-eqb p q e)) ∙ h)

unlike_signs : (p q : ℕ) → (eqb p q && (false || eqb p 0)) ≡ false → 0 < q + p
unlike_signs zero zero h = absurd (true≢false h)
unlike_signs zero (suc q) h = omega arith
unlike_signs (suc p) q h = omega arith

pub apart : (x y : Float) (k l : ℕ) → T (fits binary32 x) → T (fits binary32 y) → Size k x → Size l y → eq x y ≡ false → NonZero (y ⊖ x)
unfolding sub add sum neg eq
apart nan y k l f g a b h = absurd a
apart (inf s) y k l f g a b h = absurd a
apart (fin s m e) nan k l f g a b h = absurd b
apart (fin s m e) (inf t) k l f g a b h = absurd b
apart (fin s m e) (fin t n d) k l f g a b h = go s t h
  where
    A : ℕ
    A = m * up e * down d

    B : ℕ
    B = n * up d * down e

    C : ℕ
    C = down d * down e

    x : InUnits m e
    x = in_units_lem s m e f

    y : InUnits n d
    y = in_units_lem t n d g

    nonzero : (z : Bool) (R : ℕ) → OneOf A B R → 0 < R → NonZero (round binary32 z R C)
    nonzero z R o p =
        nonzero_round z R C (mul-pos (down_pos d) (down_pos e))
        (enough (m * up e) (n * up d) (down d) (down e) (2 ^ 149) (m * 2 ^ x.places) (n * 2 ^ y.places) R (pow_pos 149) x.exact y.exact o p)

    less : (s t u : Bool) → Float
    less s t u = cond u (round binary32 (not s) (A - B) C) (round binary32 (t && ltb A B) (B - A) C)

    level : (s t : Bool) → (A ≡ B → ⊥) → (u : Bool) → ltb B A ≡ u → NonZero (less s t u)
    level s t h true q = nonzero (not s) (A - B) (inr (inl refl)) (omega (arith, ltb-true B A q))
    level s t h false q = nonzero (t && ltb A B) (B - A) (inr (inr refl)) (positive (ltb-false B A q) h)
      where
        positive : A ≤ B → (A ≡ B → ⊥) → 0 < B - A
        positive l k = elim (eq-or-lt_of_le l) [ inl z ↦ absurd (k z) | inr z ↦ omega arith ]

    go : (s t : Bool) → (eqb A B && (beq s t || eqb A 0)) ≡ false
        → NonZero (cond (beq t (not s)) (round binary32 t (B + A) C) (less s t (ltb B A)))
    go true true h = level true true (unlike_level A B h) (ltb B A) refl
    go false false h = level false false (unlike_level A B h) (ltb B A) refl
    go true false h = nonzero false (B + A) (inl (omega arith)) (unlike_signs A B h)
    go false true h = nonzero true (B + A) (inl (omega arith)) (unlike_signs A B h)
