-- Rounded sums, differences and quotients keep the order of the floats, and equal numbers have equal differences and the same square.
use mathlib.Core.Path.{◌≡◌, refl, sym, ap, ◌∙◌}
use mathlib.Core.Bool.{Bool, true, false, ◌||◌, cond, beq, true≢false}
use Prim.Native.Nat.{ℕ, ◌+◌, ◌-◌, ◌*◌, ◌<◌, ◌≤◌}
use native.Mathlib.Nat.{mul-pos, mul_comm, mul_assoc, mul_left_comm, mul-mul-mul_comm}
use native.Mathlib.Omega.{arith}
use borrow.Author.Tests.{ltb-true, ltb-false, le-ltb, eq-eqb, ne_eqb}
use lib.IntN.{ℤ}
use lib.Dec.{ltb, eqb, eqb→eq}
use lib.Ieee.{Float, nan, inf, fin, binary32, unlike, up, down, below, level, round, neg, sum, add, sub, mul, div, lt, le, eq, is_nan}
use lib.Ieee.Fits.{down_pos, up_pos, and_l}
use lib.Ieee.Exact.{HasValue}
use lib.Ieee.Scale.{round_same}
use Rattle.float.specs.Rounded.{◌⊕◌, ◌⊖◌, ◌⊗◌, ◌⊘◌}
use Rattle.float.proofs.Negated.{neg_lt, unlike_plus}
use Rattle.float.proofs.Order.{below_scaled, lt_itself, lt_not, none_lower, none_higher}
use Rattle.rounded.proofs.Signed.{value_lt, eq_not, round_order, itself, has_number}
use Rattle.rounded.proofs.Whole.{sum_scaled}

-- ---- signed sizes, each as a size above zero less a size below it, one of which is 0

abbrev above : Bool → ℕ → ℕ
above true a = 0
above false a = a

abbrev under : Bool → ℕ → ℕ
under true a = a
under false a = 0

parts_of_lem : (s : Bool) (a : ℕ) (t : Bool) (b : ℕ) → below s a t b ≡ false → above t b + under s a ≤ above s a + under t b
parts_of_lem false a false b h = omega (arith, ltb-false a b h)
parts_of_lem false a true b h = omega arith
parts_of_lem true a false b h = omega (arith, ltb-false 0 (a + b) h)
parts_of_lem true a true b h = omega (arith, ltb-false b a h)

of_parts : (s : Bool) (a : ℕ) (t : Bool) (b : ℕ) → above t b + under s a ≤ above s a + under t b → below s a t b ≡ false
of_parts false a false b h = le-ltb a b (omega arith)
of_parts false a true b h = refl
of_parts true a false b h = le-ltb 0 (a + b) (omega arith)
of_parts true a true b h = le-ltb b a (omega arith)

-- both times k
scaled_not :
    (s : Bool) (a : ℕ) (t : Bool) (b k : ℕ) {A B : ℕ} → 0 < k → a * k ≡ A → b * k ≡ B → below s a t b ≡ false → below s A t B ≡ false
scaled_not s a t b k K p q h = rw (← p, ← q) (sym (below_scaled s a t b k K) ∙ h)

-- ---- sums

-- a sum is one fraction rounded, and its two sizes differ as those of the terms do together
sum_parts :
    (s : Bool) (a : ℕ) (t : Bool) (b c : ℕ) →
    (u : Bool) × (r : ℕ) × (sum binary32 s a t b c ≡ round binary32 u r c) × (above u r + (under s a + under t b) ≡ above s a + above t b + under u r)
unfolding sum
sum_parts true a true b c = (true, a + b, refl, omega arith)
sum_parts false a false b c = (false, a + b, refl, omega arith)
sum_parts false a true b c = go (ltb a b) refl
  where
    go :
        (v : Bool) → ltb a b ≡ v →
        (u : Bool) × (r : ℕ)
        × (cond v (round binary32 true (b - a) c) (round binary32 false (a - b) c) ≡ round binary32 u r c)
        × (above u r + (0 + b) ≡ a + 0 + under u r)
    go true h = (true, b - a, refl, omega (arith, ltb-true a b h))
    go false h = (false, a - b, refl, omega (arith, ltb-false a b h))
sum_parts true a false b c = go (ltb a b) refl (ltb b a) refl
  where
    go :
        (v : Bool) → ltb a b ≡ v → (w : Bool) → ltb b a ≡ w →
        (u : Bool) × (r : ℕ)
        × (cond v (round binary32 false (b - a) c) (round binary32 w (a - b) c) ≡ round binary32 u r c)
        × (above u r + (a + 0) ≡ 0 + b + under u r)
    go true h w k = (false, b - a, refl, omega (arith, ltb-true a b h))
    go false h true k = (true, a - b, refl, omega (arith, ltb-true b a k))
    go false h false k = (false, a - b, refl, omega (arith, ltb-false a b h, ltb-false b a k))

-- over one denominator a sum keeps the order of its terms
sum_order :
    (s : Bool) (a : ℕ) (t : Bool) (b : ℕ) (u : Bool) (c : ℕ) (v : Bool) (o k : ℕ) → 0 < k → below t b s a ≡ false → below v o u c ≡ false →
    lt (sum binary32 t b v o k) (sum binary32 s a u c k) ≡ false
sum_order s a t b u c v o k K h i =
    let p = sum_parts s a u c k in
    let q = sum_parts t b v o k in
    rw (p.2, q.2)
    (round_order q.0 q.1 k p.0 p.1 k K K
    (scaled_not q.0 q.1 p.0 p.1 k K refl refl
    (of_parts q.0 q.1 p.0 p.1 (omega (arith, p.3, q.3, parts_of_lem t b s a h, parts_of_lem v o u c i)))))

-- and over any: b / d is not below a / e, and o / g not below c / f
fractions_order :
    (s : Bool) (a e : ℕ) (t : Bool) (b d : ℕ) (u : Bool) (c f : ℕ) (v : Bool) (o g : ℕ) → 0 < e → 0 < d → 0 < f → 0 < g →
    below t (b * e) s (a * d) ≡ false → below v (o * f) u (c * g) ≡ false →
    lt (sum binary32 t (b * g) v (o * d) (d * g)) (sum binary32 s (a * f) u (c * e) (e * f)) ≡ false
fractions_order s a e t b d u c f v o g E D F G h i =
    rw (
      ← sum_scaled t (b * g) v (o * d) (d * g) (e * f) (mul-pos D G) (mul-pos E F),
      ← sum_scaled s (a * f) u (c * e) (e * f) (d * g) (mul-pos E F) (mul-pos D G),
      mul_comm (d * g) (e * f),
    )
    (sum_order s (a * f * (d * g)) t (b * g * (e * f)) u (c * e * (d * g)) v (o * d * (e * f)) (e * f * (d * g)) (mul-pos (mul-pos E F) (mul-pos D G))
    (scaled_not t (b * e) s (a * d) (f * g) (mul-pos F G) (simp (mul_assoc, mul_comm, mul_left_comm)) (mul-mul-mul_comm a d f g) h)
    (scaled_not v (o * f) u (c * g) (e * d) (mul-pos E D) (simp (mul_assoc, mul_comm, mul_left_comm)) (simp (mul_assoc, mul_comm, mul_left_comm)) i))

-- ---- no float is below a NaN or the lower infinity, the upper infinity is below none, and so with their sums

under_nan : (x : Float) → lt x nan ≡ false
unfolding lt
under_nan nan = refl
under_nan (inf s) = refl
under_nan (fin s m e) = refl

least_sum : (x y : Float) → lt x (inf true ⊕ y) ≡ false
unfolding add
least_sum x nan = under_nan x
least_sum x (inf true) = none_lower x
least_sum x (inf false) = under_nan x
least_sum x (fin s m e) = none_lower x

most_sum : (x y : Float) → lt (inf false ⊕ x) y ≡ false
unfolding add lt
most_sum nan y = refl
most_sum (inf true) y = refl
most_sum (inf false) y = none_higher y
most_sum (fin s m e) y = none_higher y

-- ---- the order of sums and differences

-- a rounded sum keeps the order of its two terms
add_orders : (x y z w : Float) → lt y x ≡ false → lt w z ≡ false → lt (y ⊕ w) (x ⊕ z) ≡ false
unfolding lt add
add_orders nan y z w h k = under_nan (y ⊕ w)
add_orders (inf true) y z w h k = least_sum (y ⊕ w) z
add_orders (inf false) nan z w h k = refl
add_orders (inf false) (inf true) z w h k = absurd (true≢false h)
add_orders (inf false) (inf false) z w h k = most_sum w (inf false ⊕ z)
add_orders (inf false) (fin t n d) z w h k = absurd (true≢false h)
add_orders (fin s m e) nan z w h k = refl
add_orders (fin s m e) (inf true) z w h k = absurd (true≢false h)
add_orders (fin s m e) (inf false) z w h k = most_sum w (fin s m e ⊕ z)
add_orders (fin s m e) (fin t n d) nan w h k = under_nan (fin t n d ⊕ w)
add_orders (fin s m e) (fin t n d) (inf true) w h k = none_lower (fin t n d ⊕ w)
add_orders (fin s m e) (fin t n d) (inf false) nan h k = refl
add_orders (fin s m e) (fin t n d) (inf false) (inf true) h k = absurd (true≢false k)
add_orders (fin s m e) (fin t n d) (inf false) (inf false) h k = refl
add_orders (fin s m e) (fin t n d) (inf false) (fin v o g) h k = absurd (true≢false k)
add_orders (fin s m e) (fin t n d) (fin u c f) nan h k = refl
add_orders (fin s m e) (fin t n d) (fin u c f) (inf true) h k = absurd (true≢false k)
add_orders (fin s m e) (fin t n d) (fin u c f) (inf false) h k = none_higher (fin s m e ⊕ fin u c f)
add_orders (fin s m e) (fin t n d) (fin u c f) (fin v o g) h k =
    fractions_order s (m * up e) (down e) t (n * up d) (down d) u (c * up f) (down f) v (o * up g) (down g) (down_pos e) (down_pos d) (down_pos f) (down_pos g)
    h k

-- a difference keeps the order of its first term and turns that of its second
sub_orders : (x y z w : Float) → lt y x ≡ false → lt z w ≡ false → lt (y ⊖ w) (x ⊖ z) ≡ false
unfolding sub
sub_orders x y z w h k = add_orders x y (neg z) (neg w) h (neg_lt w z ∙ k)

-- of the first term alone
pub sub_order : (x y z : Float) → lt y x ≡ false → lt (y ⊖ z) (x ⊖ z) ≡ false
sub_order x y z h = sub_orders x y z z h (lt_itself z)

-- ---- the order of quotients

-- a quotient by a number above zero is one fraction rounded, with the sign of the dividend
pub quotient :
    (s : Bool) (m : ℕ) (e : ℤ) (n : ℕ) (d : ℤ) → 0 < n → fin s m e ⊘ fin false n d ≡ round binary32 s (m * up e * down d) (n * up d * down e)
unfolding div
quotient s m e n d N =
    let z : eqb n 0 ≡ false = ne_eqb n 0 (λ q. omega arith) in
    rw z (ap (λ (t : Bool). round binary32 t (m * up e * down d) (n * up d * down e)) (unlike_plus s))

-- so it keeps the order
pub div_order : (x y : Float) (n : ℕ) (d : ℤ) → 0 < n → lt y x ≡ false → lt (y ⊘ fin false n d) (x ⊘ fin false n d) ≡ false
unfolding lt div
div_order nan y n d N h = under_nan (y ⊘ fin false n d)
div_order (inf true) y n d N h = none_lower (y ⊘ fin false n d)
div_order (inf false) nan n d N h = refl
div_order (inf false) (inf true) n d N h = absurd (true≢false h)
div_order (inf false) (inf false) n d N h = refl
div_order (inf false) (fin t o f) n d N h = absurd (true≢false h)
div_order (fin s m e) nan n d N h = refl
div_order (fin s m e) (inf true) n d N h = absurd (true≢false h)
div_order (fin s m e) (inf false) n d N h = none_higher (fin s m e ⊘ fin false n d)
div_order (fin s m e) (fin t o f) n d N h =
    let p : 0 < n * up d = mul-pos N (up_pos d) in
    rw (quotient s m e n d N, quotient t o f n d N)
    (round_order t (o * up f * down d) (n * up d * down f) s (m * up e * down d) (n * up d * down e) (mul-pos p (down_pos f)) (mul-pos p (down_pos e))
    (scaled_not t (o * up f * down e) s (m * up e * down f) (down d * (n * up d)) (mul-pos (down_pos d) p)
    (simp (mul_assoc, mul_comm, mul_left_comm)) (simp (mul_assoc, mul_comm, mul_left_comm)) h))

-- to divide by a number below zero is to divide the negated number by one above it
pub sign_moved : (x : Float) (n : ℕ) (d : ℤ) → x ⊘ fin true n d ≡ neg x ⊘ fin false n d
unfolding div neg
sign_moved nan n d = refl
sign_moved (inf true) n d = refl
sign_moved (inf false) n d = refl
sign_moved (fin true m e) n d = refl
sign_moved (fin false m e) n d = refl

-- so a quotient by a number below zero turns the order
pub div_turned : (x y : Float) (n : ℕ) (d : ℤ) → 0 < n → lt y x ≡ false → lt (x ⊘ fin true n d) (y ⊘ fin true n d) ≡ false
div_turned x y n d N h = rw (sign_moved x n d, sign_moved y n d) (div_order (neg y) (neg x) n d N (neg_lt x y ∙ h))

-- ---- equal numbers

level_parts : (s : Bool) (a : ℕ) (t : Bool) (b : ℕ) → below s a t b ≡ false → below t b s a ≡ false → level s a t b ≡ true
level_parts false a false b h k = rw (eq-eqb a b (omega (arith, ltb-false a b h, ltb-false b a k)))
level_parts true a true b h k = rw (eq-eqb a b (omega (arith, ltb-false a b k, ltb-false b a h)))
level_parts true a false b h k =
    let z = ltb-false 0 (a + b) h in rw (eq-eqb a b (omega arith), eq-eqb a 0 (omega arith))
level_parts false a true b h k =
    let z = ltb-false 0 (b + a) k in rw (eq-eqb a b (omega arith), eq-eqb a 0 (omega arith))

-- numbers of which neither is below the other are equal
pub level_of : (x y : Float) → is_nan x ≡ false → is_nan y ≡ false → lt x y ≡ false → lt y x ≡ false → eq x y ≡ true
unfolding is_nan lt eq
level_of nan y i j h k = absurd (true≢false i)
level_of (inf s) nan i j h k = absurd (true≢false j)
level_of (inf true) (inf true) i j h k = refl
level_of (inf true) (inf false) i j h k = absurd (true≢false h)
level_of (inf false) (inf true) i j h k = absurd (true≢false k)
level_of (inf false) (inf false) i j h k = refl
level_of (inf true) (fin t n d) i j h k = absurd (true≢false h)
level_of (inf false) (fin t n d) i j h k = absurd (true≢false k)
level_of (fin s m e) nan i j h k = absurd (true≢false j)
level_of (fin s m e) (inf true) i j h k = absurd (true≢false k)
level_of (fin s m e) (inf false) i j h k = absurd (true≢false h)
level_of (fin s m e) (fin t n d) i j h k = level_parts s (m * up e * down d) t (n * up d * down e) h k

-- so are floats of the same value
pub value_level : (x y : Float) (s : Bool) (a c : ℕ) → 0 < c → HasValue x s a c → HasValue y s a c → eq x y ≡ true
value_level x y s a c C h k =
    level_of x y (has_number x s a c h) (has_number y s a c k) (value_lt x y s a c s a c C C h k ∙ itself s (a * c))
    (value_lt y x s a c s a c C C k h ∙ itself s (a * c))

-- a number equals itself, and two are equal in either order
pub level_itself : (x : Float) → is_nan x ≡ false → eq x x ≡ true
level_itself x i = level_of x x i i (lt_itself x) (lt_itself x)

pub level_turned : (x y : Float) → is_nan x ≡ false → is_nan y ≡ false → eq x y ≡ true → eq y x ≡ true
level_turned x y i j h = let p = eq_not x y (rw h tt) in level_of y x j i p.1 p.0

-- and numbers that equal a third
pub level_trans : (x y z : Float) → is_nan x ≡ false → is_nan y ≡ false → is_nan z ≡ false → eq x y ≡ true → eq y z ≡ true → eq x z ≡ true
level_trans x y z i j k h g =
    let p = eq_not x y (rw h tt) in
    let q = eq_not y z (rw g tt) in
    level_of x z i k (lt_not x y z j p.0 q.0) (lt_not z y x j q.1 p.1)

-- two floats are in order exactly if they are numbers and not in the other order
pub le_numbers : (x y : Float) → le x y ≡ true → (is_nan x ≡ false) × (is_nan y ≡ false)
unfolding le lt eq is_nan
le_numbers nan y h = absurd (true≢false (sym h))
le_numbers (inf s) nan h = absurd (true≢false (sym h))
le_numbers (inf s) (inf t) h = (refl, refl)
le_numbers (inf s) (fin t n d) h = (refl, refl)
le_numbers (fin s m e) nan h = absurd (true≢false (sym h))
le_numbers (fin s m e) (inf t) h = (refl, refl)
le_numbers (fin s m e) (fin t n d) h = (refl, refl)

pub le_of : (x y : Float) → is_nan x ≡ false → is_nan y ≡ false → lt y x ≡ false → le x y ≡ true
unfolding le
le_of x y i j h = go (lt x y) refl
  where
    go : (t : Bool) → lt x y ≡ t → (t || eq x y) ≡ true
    go true k = refl
    go false k = level_of x y i j k h

-- equal numbers have equal differences, where these are numbers
pub level_sub :
    (x x' y y' : Float) → eq x x' ≡ true → eq y y' ≡ true → is_nan (x ⊖ y) ≡ false → is_nan (x' ⊖ y') ≡ false → eq (x ⊖ y) (x' ⊖ y') ≡ true
level_sub x x' y y' h k i j =
    let p = eq_not x x' (rw h tt) in
    let q = eq_not y y' (rw k tt) in
    level_of (x ⊖ y) (x' ⊖ y') i j (sub_orders x' x y' y p.0 q.1) (sub_orders x x' y y' p.1 q.0)

pub unlike_same : (s : Bool) → unlike s s ≡ false
unlike_same true = refl
unlike_same false = refl

-- equal numbers have the same square, to the sign of a zero
pub level_square : (x y : Float) → eq x y ≡ true → x ⊗ x ≡ y ⊗ y
unfolding eq mul
level_square nan y h = absurd (true≢false (sym h))
level_square (inf s) nan h = absurd (true≢false (sym h))
level_square (inf s) (inf t) h = ap inf (unlike_same s ∙ sym (unlike_same t))
level_square (inf s) (fin t n d) h = absurd (true≢false (sym h))
level_square (fin s m e) nan h = absurd (true≢false (sym h))
level_square (fin s m e) (inf t) h = absurd (true≢false (sym h))
level_square (fin s m e) (fin t n d) h =
    let a = m * up e in
    let b = n * up d in
    let A = a * down d in
    let B = b * down e in
    let same : A ≡ B = eqb→eq A B (and_l (eqb A B) (beq s t || eqb A 0) (rw h tt)) in
    rw (unlike_same s, unlike_same t)
    (round_same binary32 false (a * a) (down e * down e) (b * b) (down d * down d) (mul-pos (down_pos e) (down_pos e)) (mul-pos (down_pos d) (down_pos d))
    (mul-mul-mul_comm a a (down d) (down d) ∙ ap (λ (z : ℕ). z * z) same ∙ mul-mul-mul_comm b (down e) b (down e)))
