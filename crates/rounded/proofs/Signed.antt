-- The order of fractions of either sign: floats that have them for values are in it, and rounding keeps it.
use mathlib.Core.Path.{◌≡◌, refl, sym, ap, ◌∙◌, subst}
use mathlib.Core.Bool.{Bool, true, false, ◌&&◌, ◌||◌}
use Prim.Native.Nat.{ℕ, zero, suc, ◌+◌, ◌*◌, ◌<◌, ◌≤◌}
use native.Mathlib.Nat.{mul-pos, mul_comm, mul_assoc, mul_left_comm, suc-mul, zero-lt-suc}
use native.Mathlib.Omega.{arith}
use borrow.Author.Tests.{ltb-false, le-ltb}
use lib.Dec.{T, eqb, eqb→eq}
use lib.Ieee.{Float, nan, inf, fin, binary32, up, down, below, level, round, neg, lt, le, eq, is_nan}
use lib.Ieee.Fits.{down_pos, and_l, and_r}
use lib.Ieee.Exact.{HasValue}
use lib.Ieee.Order.{round_mono}
use Rattle.float.proofs.Negated.{neg_round, neg_lt}
use Rattle.float.proofs.Order.{below_scaled, lt_one_way, lt_not}

-- ---- by values

pub value_lt :
    (x y : Float) (s : Bool) (a c : ℕ) (t : Bool) (b d : ℕ) → 0 < c → 0 < d → HasValue x s a c → HasValue y t b d →
    lt x y ≡ below s (a * d) t (b * c)
unfolding lt
value_lt nan y s a c t b d C D p q = absurd p
value_lt (inf r) y s a c t b d C D p q = absurd p
value_lt (fin r m e) nan s a c t b d C D p q = absurd q
value_lt (fin r m e) (inf u) s a c t b d C D p q = absurd q
value_lt (fin r m e) (fin u n f) s a c t b d C D p q =
    let M = m * up e * down f in
    let N = n * up f * down e in
    let l : M * (c * d) ≡ a * d * (down e * down f) =
    simp (mul_assoc, mul_comm, mul_left_comm) (simp (mul_assoc, mul_comm, mul_left_comm) at (ap (λ (z : ℕ). z * (down f * d)) p.1)) in
    let k : N * (c * d) ≡ b * c * (down e * down f) =
    simp (mul_assoc, mul_comm, mul_left_comm) (simp (mul_assoc, mul_comm, mul_left_comm) at (ap (λ (z : ℕ). z * (down e * c)) q.1)) in
    ap (λ (z : Bool). below z M u N) p.0
    ∙ ap (λ (z : Bool). below s M z N) q.0
    ∙ below_scaled s M t N (c * d) (mul-pos C D)
    ∙ ap (λ (z : ℕ). below s z t (N * (c * d))) l
    ∙ ap (λ (z : ℕ). below s (a * d * (down e * down f)) t z) k
    ∙ sym (below_scaled s (a * d) t (b * c) (down e * down f) (mul-pos (down_pos e) (down_pos f)))

-- ---- rounded

no_size : (a b : ℕ) → T (eqb a b && eqb a 0) → a + b ≤ 0
no_size a b h = omega (arith, eqb→eq a b (and_l (eqb a b) (eqb a 0) h), eqb→eq a 0 (and_r (eqb a b) (eqb a 0) h))

level_not : (s : Bool) (a : ℕ) (t : Bool) (b : ℕ) → T (level s a t b) → (below s a t b ≡ false) × (below t b s a ≡ false)
level_not false a false b h = let e = eqb→eq a b (and_l (eqb a b) true h) in (le-ltb a b (omega arith), le-ltb b a (omega arith))
level_not true a true b h = let e = eqb→eq a b (and_l (eqb a b) true h) in (le-ltb b a (omega arith), le-ltb a b (omega arith))
level_not true a false b h = (le-ltb 0 (a + b) (no_size a b h), refl)
level_not false a true b h = (refl, le-ltb 0 (b + a) (omega (arith, no_size a b h)))

-- neither of two equal numbers is below the other
pub eq_not : (x y : Float) → T (eq x y) → (lt x y ≡ false) × (lt y x ≡ false)
unfolding lt eq
eq_not nan y h = absurd h
eq_not (inf s) nan h = absurd h
eq_not (inf true) (inf true) h = (refl, refl)
eq_not (inf true) (inf false) h = absurd h
eq_not (inf false) (inf true) h = absurd h
eq_not (inf false) (inf false) h = (refl, refl)
eq_not (inf s) (fin t n d) h = absurd h
eq_not (fin s m e) nan h = absurd h
eq_not (fin s m e) (inf t) h = absurd h
eq_not (fin s m e) (fin t n d) h = level_not s (m * up e * down d) t (n * up d * down e) h

pub le_not : (x y : Float) → T (le x y) → lt y x ≡ false
unfolding le
le_not x y h = go (lt x y) refl h
  where
    go : (b : Bool) → lt x y ≡ b → T (b || eq x y) → lt y x ≡ false
    go true k h = lt_one_way x y k
    go false k h = (eq_not x y h).1

-- of one sign
plain_order : (a c b d : ℕ) → 0 < c → 0 < d → b * c ≤ a * d → lt (round binary32 false a c) (round binary32 false b d) ≡ false
plain_order a c b d C D h = le_not (round binary32 false b d) (round binary32 false a c) (round_mono binary32 b d a c D C h)

minus_order : (a c b d : ℕ) → 0 < c → 0 < d → a * d ≤ b * c → lt (round binary32 true a c) (round binary32 true b d) ≡ false
minus_order a c b d C D h =
    subst (λ (z : Float). lt z (round binary32 true b d) ≡ false) (neg_round binary32 false a c)
    (subst (λ (z : Float). lt (neg (round binary32 false a c)) z ≡ false) (neg_round binary32 false b d)
    (neg_lt (round binary32 false a c) (round binary32 false b d) ∙ plain_order b d a c D C h))

-- of two signs, by way of the zeros
abbrev zero_of : Bool → Float
zero_of s = round binary32 s 0 1

number : (s : Bool) → is_nan (zero_of s) ≡ false
unfolding round is_nan
number true = refl
number false = refl

zeros : (s t : Bool) → lt (zero_of s) (zero_of t) ≡ false
unfolding round lt
zeros true true = refl
zeros true false = refl
zeros false true = refl
zeros false false = refl

past_zeros : (x y : Float) (s t : Bool) → lt x (zero_of s) ≡ false → lt (zero_of t) y ≡ false → lt x y ≡ false
past_zeros x y s t h k = lt_not x (zero_of s) y (number s) h (lt_not (zero_of s) (zero_of t) y (number t) (zeros s t) k)

pub round_order :
    (s : Bool) (a c : ℕ) (t : Bool) (b d : ℕ) → 0 < c → 0 < d → below s (a * d) t (b * c) ≡ false →
    lt (round binary32 s a c) (round binary32 t b d) ≡ false
round_order false a c false b d C D h = plain_order a c b d C D (ltb-false (a * d) (b * c) h)
round_order true a c true b d C D h = minus_order a c b d C D (ltb-false (b * c) (a * d) h)
round_order false a c true b d C D h =
    past_zeros (round binary32 false a c) (round binary32 true b d) false true (plain_order a c 0 1 C (zero-lt-suc 0) (omega arith))
    (minus_order 0 1 b d (zero-lt-suc 0) D (omega arith))
round_order true a c false b d C D h =
    let z = ltb-false 0 (a * d + b * c) h in
    past_zeros (round binary32 true a c) (round binary32 false b d) true false (minus_order a c 0 1 C (zero-lt-suc 0) (none a d c D (omega arith)))
    (plain_order 0 1 b d (zero-lt-suc 0) D (none b c d C (omega arith)))
  where
    none : (a d c : ℕ) → 0 < d → a * d ≤ 0 → a * 1 ≤ 0 * c
    none zero d c D h = omega arith
    none (suc a) d c D h = absurd (omega (arith, suc-mul a d))

-- ---- an f32 and a rounded fraction

pub itself : (s : Bool) (a : ℕ) → below s a s a ≡ false
itself true a = le-ltb a a (omega arith)
itself false a = le-ltb a a (omega arith)

pub has_number : (x : Float) (s : Bool) (a c : ℕ) → HasValue x s a c → is_nan x ≡ false
unfolding is_nan
has_number nan s a c h = absurd h
has_number (inf t) s a c h = absurd h
has_number (fin t m e) s a c h = refl

-- x is not below b / d, so it is not below what b / d rounds to
pub not_past :
    (x : Float) (s : Bool) (a c : ℕ) (t : Bool) (b d : ℕ) → 0 < c → 0 < d → HasValue x s a c → HasValue (round binary32 s a c) s a c →
    below s (a * d) t (b * c) ≡ false → lt x (round binary32 t b d) ≡ false
not_past x s a c t b d C D p q h =
    let r = round binary32 s a c in
    lt_not x r (round binary32 t b d) (has_number r s a c q) (value_lt x r s a c s a c C C p q ∙ itself s (a * c)) (round_order s a c t b d C D h)
