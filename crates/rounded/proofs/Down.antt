-- How many whole places lie between a number and a limit above it, and how a rounded step of one down leaves them. A step from a number of at
-- least one is exact.
use mathlib.Core.Path.{◌≡◌, refl, sym, ap, ◌∙◌}
use mathlib.Core.Bool.{Bool, true, false, ◌&&◌, ◌||◌, cond, true≢false, and-eq-true_iff}
use Prim.Native.Nat.{ℕ, zero, suc, ◌+◌, ◌-◌, ◌*◌, ◌^◌, ◌≤◌, ◌<◌}
use native.Mathlib.Nat.{lt_of_lt_of_le, lt_irrefl, mul-one, one-mul, zero-mul, mul-pos, mul_comm, mul_assoc, mul_right_comm, mul-le-mul_right, mul-lt-mul_of_pos_right, add-mul, suc-mul, lt_of_mul-lt-mul_right, pow-le-pow_right}
use native.Mathlib.Decide.{dec_le}
use native.Mathlib.Omega.{arith}
use borrow.Author.Tests.{ltb-true, ltb-false, eqb-true}
use lib.IntN.{ℤ, pos, negsuc}
use lib.Pow.{pow_pos, pow-lt, pow-add, shl_lt}
use lib.Dec.{T, ltb, eqb, lit≤, lit<}
use lib.Ieee.{Float, nan, inf, fin, binary32, up, down, round, sum, add, lt, le, eq, fits, of_bits}
use lib.Ieee.Fits.{down_pos, up_pos}
use lib.Ieee.Exact.{HasValue, round_exact}
use lib.Ieee.Back.{round_whole}
use Rattle.float.specs.Rounded.{◌⊕◌, +0}
use Rattle.float.proofs.Units.{in_units_lem}
use Rattle.rounded.specs.Size.{Size}
use Rattle.rounded.proofs.Round.{Mag, round_mag}
use Rattle.rounded.proofs.Step.{base, Past, unit}
use Rattle.rounded.proofs.Apart.{NonZero, nonzero_round}

pub both : (a b : Bool) → (a && b) ≡ true → (a ≡ true) × (b ≡ true)
both a b = (and-eq-true_iff a b).0

-- ---- downwards

-- x + c is below n
abbrev pub Left : ℕ → ℕ → Float → Type 0
Left n c nan = ⊥
Left n c (inf s) = ⊥
Left n c (fin false m e) = m * up e + c * down e < n * down e
Left n c (fin true m e) = c * down e < n * down e + m * up e

pub left_less : (n b c : ℕ) (x : Float) → b ≤ c → Left n c x → Left n b x
left_less n b c nan h l = l
left_less n b c (inf s) h l = l
left_less n b c (fin false m e) h l = let g : b * down e ≤ c * down e = mul-le-mul_right (down e) h in omega arith
left_less n b c (fin true m e) h l = let g : b * down e ≤ c * down e = mul-le-mul_right (down e) h in omega arith

left_negative : (n c q : ℕ) (x : Float) → c ≤ n → Mag true 0 q x → NonZero x → Left n c x
left_negative n c q nan h g z = g
left_negative n c q (inf s) h g z = g
left_negative n c q (fin false m e) h g z = absurd (true≢false (sym g.0))
left_negative n c q (fin true m e) h g z =
    let l : c * down e ≤ n * down e = mul-le-mul_right (down e) h in
    let k : 0 < m * up e = mul-pos z (up_pos e) in
    omega arith

-- M / D - 1, exactly
left_exact : (n c M D : ℕ) (x : Float) → 0 < D → D ≤ M → M + c * D < n * D → HasValue x false (M - D) D → Left n (suc c) x
left_exact n c M D nan P l h v = v
left_exact n c M D (inf s) P l h v = v
left_exact n c M D (fin true m e) P l h v = absurd (true≢false v.0)
left_exact n c M D (fin false m e) P l h v =
    let E = down e in
    let A = m * up e in
    let i : M - D + D ≡ M = omega arith in
    let j : (M - D) * E + D * E ≡ M * E = sym (add-mul (M - D) D E) ∙ ap (λ (z : ℕ). z * E) i in
    let k : (M + c * D) * E < n * D * E = mul-lt-mul_of_pos_right h (down_pos e) in
    let g : (A + suc c * E) * D < n * E * D =
    omega (
      arith,
      v.1,
      j,
      k,
      add-mul M (c * D) E,
      add-mul A (suc c * E) D,
      ap (λ (z : ℕ). z * D) (suc-mul c E),
      add-mul (c * E) E D,
      mul_right_comm c E D,
      mul_comm E D,
      mul_right_comm n E D,
    ) in
    lt_of_mul-lt-mul_right D g

-- what is no larger than an f32 is one too, over the same denominator
pub exact :
    (s t : Bool) (m : ℕ) (e : ℤ) (r : ℕ) → T (fits binary32 (fin t m e)) → m * up e ≤ 8388608 * down e → r ≤ m * up e →
    HasValue (round binary32 s r (down e)) s r (down e)
exact s t m (pos k) r f h b = round_whole binary32 s r (omega arith)
exact s t m (negsuc k) r f h b = elim (dec_le (suc k) 149) [
  | yes l ↦
      let D = 2 ^ suc k in
      let j = 149 - suc k in
      let few : r < 2 ^ 24 = omega (arith, (in_units_lem t m (negsuc k) f).few, mul-one m) in
      let z : j + suc k ≡ 149 = omega arith in
      let y : 24 + j ≤ 277 = omega arith in
      round_exact binary32 s r D r j (pow_pos (suc k)) few (lt_of_lt_of_le (shl_lt 24 j few) (pow-le-pow_right (lit< tt) y))
      (sym (mul_assoc r (2 ^ j) D ∙ ap (λ (i : ℕ). r * i) (sym (pow-add 2 j (suc k)) ∙ ap (λ (i : ℕ). 2 ^ i) z)))
  | no l ↦ absurd (lt_irrefl (2 ^ 149) (lt_of_lt_of_le (pow-lt (let i : 149 < suc k = omega arith in i)) (in_units_lem t m (negsuc k) f).fine))
]

after_negative : (n c m : ℕ) (e : ℤ) → m * up e ≤ 8388608 * down e → c ≤ n → Left n c (fin true m e ⊕ unit true)
unfolding add sum
after_negative n c m e h l =
    let D = down e in
    let M = m * up e in
    simp (mul-one, one-mul)
    (left_negative n c 8388609 (round binary32 true (M + D) D) l
    (round_mag true (M + D) D 0 8388609 (down_pos e) (omega (arith, zero-mul D)) (omega arith) (lit≤ tt))
    (nonzero_round true (M + D) D (down_pos e) (grown M D (2 ^ 149) (pow_pos 149))))
  where
    grown : (M D U : ℕ) → 0 < U → D ≤ (M + D) * U
    grown M D zero p = elim p [ ]
    grown M D (suc U) p = omega (arith, mul_comm (M + D) (suc U), suc-mul U (M + D))

after_positive :
    (n c m : ℕ) (e : ℤ) → T (fits binary32 (fin false m e)) → m * up e ≤ 8388608 * down e → suc c ≤ n → Left n c (fin false m e) →
    Left n (suc c) (fin false m e ⊕ unit true)
unfolding add sum
after_positive n c m e f h l g = simp (mul-one, one-mul) (go (ltb (m * up e) (down e)) refl)
  where
    D : ℕ
    D = down e

    M : ℕ
    M = m * up e

    go : (b : Bool) → b ≡ ltb M D → Left n (suc c) (cond b (round binary32 true (D - M) D) (round binary32 false (M - D) D))
    go true q =
        let k = ltb-true M D (sym q) in
        left_negative n (suc c) 1 (round binary32 true (D - M) D) l
        (round_mag true (D - M) D 0 1 (down_pos e) (omega (arith, zero-mul D)) (omega arith) (lit≤ tt))
        (nonzero_round true (D - M) D (down_pos e) (enough (D - M) D (2 ^ 149) (omega arith) (in_units_lem false m e f).fine))
      where
        enough : (A B U : ℕ) → 0 < A → B ≤ U → B ≤ A * U
        enough zero B U p h = elim p [ ]
        enough (suc A) B U p h = omega (arith, suc-mul A U)
    go false q = left_exact n c M D (round binary32 false (M - D) D) (down_pos e) (ltb-false M D (sym q)) g (exact false false m e (M - D) f h (omega arith))

-- one step down from a place of the side, and from any place
pub back_on : (n c : ℕ) (x : Float) → T (fits binary32 x) → Size 8388608 x → suc c ≤ n → Left n c x → Left n (suc c) (x ⊕ unit true)
back_on n c nan f s l g = absurd g
back_on n c (inf t) f s l g = absurd g
back_on n c (fin true m e) f s l g = after_negative n (suc c) m e s l
back_on n c (fin false m e) f s l g = after_positive n c m e f s l g

pub back_off : (n c : ℕ) (x : Float) → T (fits binary32 x) → Size 8388608 x → c ≤ n → Left n c x → Left n c (x ⊕ unit true)
back_off n c nan f s l g = absurd g
back_off n c (inf t) f s l g = absurd g
back_off n c (fin true m e) f s l g = after_negative n c m e s l
back_off n c (fin false m e) f s l g =
    let h : c * down e < n * down e = omega arith in
    let k : c < n = lt_of_mul-lt-mul_right (down e) h in
    left_less n c (suc c) (fin false m e ⊕ unit true) (omega arith) (after_positive n c m e f s (omega arith) g)

-- ---- on the side

-- at least c, and d more is below n
pub between : (n c d : ℕ) (x : Float) → Past (base + c) x → Left n d x → c + d < n
between n c d nan p l = absurd p
between n c d (inf s) p l = absurd p
between n c d (fin false m e) p l =
    let h : (c + d) * down e < n * down e = omega (arith, add-mul base c (down e), add-mul c d (down e)) in lt_of_mul-lt-mul_right (down e) h
between n c d (fin true m e) p l =
    let h : (c + d) * down e < n * down e = omega (arith, add-mul base c (down e), add-mul c d (down e)) in lt_of_mul-lt-mul_right (down e) h

-- a * 2 ^ d is the whole number n
scaled : (n a : ℕ) (e d : ℤ) → HasValue (fin false a d) false n 1 → a * up d * down e ≡ n * down e * down d
scaled n a e d v = ap (λ (z : ℕ). z * down e) (sym (mul-one (a * up d)) ∙ v.1) ∙ mul_right_comm n (down d) (down e)

-- not below zero and below the whole number n, as floats compare
pub on_side : (n : ℕ) (x y : Float) → HasValue y false n 1 → le +0 x ≡ true → lt x y ≡ true → Past base x × Left n 0 x
unfolding le lt eq of_bits
on_side n x nan v l t = absurd v
on_side n x (inf u) v l t = absurd v
on_side n x (fin true a d) v l t = absurd (true≢false v.0)
on_side n nan (fin false a d) v l t = absurd (true≢false (sym t))
on_side n (inf true) (fin false a d) v l t = absurd (true≢false (sym l))
on_side n (inf false) (fin false a d) v l t = absurd (true≢false (sym t))
on_side n (fin false m e) (fin false a d) v l t =
    let h = ltb-true (m * up e * down d) (a * up d * down e) t in
    let g : m * up e * down d < n * down e * down d = omega (arith, scaled n a e d v) in
    (omega arith, omega (arith, lt_of_mul-lt-mul_right (down d) g, zero-mul (down e)))
on_side n (fin true m e) (fin false a d) v l t =
    let z = eqb-true (0 * down e) (m * up e * 1) (both (eqb (0 * down e) (m * up e * 1)) (false || eqb (0 * down e) 0) l).0 in
    let h = ltb-true 0 (m * up e * down d + a * up d * down e) t in
    let g : 0 * down d < (n * down e + m * up e) * down d =
    omega (arith, scaled n a e d v, add-mul (n * down e) (m * up e) (down d), zero-mul (down d)) in
    (omega (arith, mul-one (m * up e), zero-mul (down e)), omega (arith, lt_of_mul-lt-mul_right (down d) g, zero-mul (down e)))
