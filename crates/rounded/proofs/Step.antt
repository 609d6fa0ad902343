-- A step of one, rounded to f32, goes past the next whole number: where x is at least j, x + 1 rounded is at least j + 1, and so in the other direction.
use mathlib.Core.Path.{◌≡◌, refl, sym, ap, ◌∙◌, subst}
use mathlib.Core.Bool.{Bool, true, false, ◌&&◌, cond, true≢false}
use Prim.Native.Nat.{ℕ, suc, ◌+◌, ◌-◌, ◌*◌, ◌≤◌, ◌<◌}
use native.Mathlib.Nat.{mul-one, one-mul, zero-mul, suc-mul, add-mul, mul_right_comm, mul-le-mul_right, le_of_mul-le-mul_right}
use native.Mathlib.Omega.{arith}
use native.Mathlib.Decide.{dec_le}
use borrow.Author.Tests.{ltb-true, ltb-false}
use lib.IntN.{pos}
use lib.Dec.{ltb, lit≤}
use lib.Ieee.{Float, nan, inf, fin, binary32, up, down, round, neg, sum, add, lt}
use lib.Ieee.Fits.{down_pos}
use Rattle.float.specs.Rounded.{◌⊕◌}
use Rattle.float.proofs.Negated.{neg_round}
use Rattle.rounded.proofs.Round.{Mag, round_mag}
use Rattle.rounded.specs.Size.{Size}

-- whole numbers are counted from -2 ^ 17, so that they are not negative
abbrev pub base : ℕ
base = 131072

-- x is finite and at least j, counted from the base
abbrev pub Past : ℕ → Float → Type 0
Past j nan = ⊥
Past j (inf t) = ⊥
Past j (fin false m e) = j * down e ≤ base * down e + m * up e
Past j (fin true m e) = j * down e + m * up e ≤ base * down e

-- what is at least j is at least what is less
pub past_less : (i j : ℕ) (x : Float) → i ≤ j → Past j x → Past i x
past_less i j nan h p = p
past_less i j (inf s) h p = p
past_less i j (fin false m e) h p = let g : i * down e ≤ j * down e = mul-le-mul_right (down e) h in omega arith
past_less i j (fin true m e) h p = let g : i * down e ≤ j * down e = mul-le-mul_right (down e) h in omega arith

-- x is finite and at most k
abbrev pub Under : ℕ → Float → Type 0
Under k nan = ⊥
Under k (inf t) = ⊥
Under k (fin false m e) = m * up e ≤ k * down e
Under k (fin true m e) = Unit

-- ---- from a value's size

pub under_of_size : (k : ℕ) (x : Float) → Size k x → Under k x
under_of_size k nan h = h
under_of_size k (inf s) h = h
under_of_size k (fin false m e) h = h
under_of_size k (fin true m e) h = tt

pub past_of_size : (k : ℕ) (x : Float) → k ≤ base → Size k x → Past (base - k) x
past_of_size k nan l h = h
past_of_size k (inf s) l h = h
past_of_size k (fin s m e) l h = go s
  where
    split : base * down e ≡ (base - k) * down e + k * down e
    split = let g : base ≡ base - k + k = omega arith in ap (λ (z : ℕ). z * down e) g ∙ add-mul (base - k) k (down e)

    go : (s : Bool) → Past (base - k) (fin s m e)
    go false = omega (arith, split)
    go true = omega (arith, split)

past_up : (j p q : ℕ) (x : Float) → j ≤ base + p → Mag false p q x → Past j x
past_up j p q nan l h = h
past_up j p q (inf s) l h = h
past_up j p q (fin true m e) l h = absurd (true≢false h.0)
past_up j p q (fin false m e) l h =
    let k : j * down e ≤ (base + p) * down e = mul-le-mul_right (down e) l in omega (arith, h.1, k, add-mul base p (down e))

past_down : (j p q : ℕ) (x : Float) → j + q ≤ base → Mag true p q x → Past j x
past_down j p q nan l h = h
past_down j p q (inf s) l h = h
past_down j p q (fin false m e) l h = absurd (true≢false (sym h.0))
past_down j p q (fin true m e) l h =
    let k : (j + q) * down e ≤ base * down e = mul-le-mul_right (down e) l in omega (arith, h.2, k, add-mul j q (down e))

-- ---- the step, by the signs of x and of what comes out

-- (n - base) * D, by whether n is past the base
above : (n D R : ℕ) → n * D ≤ base * D + R → (n - base) * D ≤ R
above n D R h = elim (dec_le n base) [
  | yes a ↦ let z : n - base ≡ 0 = omega arith in rw z (omega (arith, zero-mul D))
  | no b ↦ let e : n ≡ base + (n - base) = omega arith in omega (arith, h, ap (λ (k : ℕ). k * D) e, add-mul base (n - base) D)
]

step_up : (j M D : ℕ) → 0 < D → j * D ≤ base * D + M → M ≤ 8388608 * D → Past (suc j) (round binary32 false (M + D) D)
step_up j M D P h top =
    past_up (suc j) (suc j - base) 8388609 (round binary32 false (M + D) D) (omega arith)
    (round_mag false (M + D) D (suc j - base) 8388609 P (above (suc j) D (M + D) (omega (arith, suc-mul j D))) (omega arith) (lit≤ tt))

step_zero : (j M D : ℕ) → 0 < D → j * D + M ≤ base * D → M < D → Past (suc j) (round binary32 false (D - M) D)
step_zero j M D P h l =
    past_up (suc j) (suc j - base) 1 (round binary32 false (D - M) D) (omega arith)
    (round_mag false (D - M) D (suc j - base) 1 P (above (suc j) D (D - M) (omega (arith, suc-mul j D))) (omega arith) (lit≤ tt))

step_down : (j M D : ℕ) (s : Bool) → 0 < D → j * D + M ≤ base * D → D ≤ M → (s ≡ false → M ≤ D) → Past (suc j) (round binary32 s (M - D) D)
step_down j M D s P h l e = go s e
  where
    small : suc j ≤ base
    small = let k : suc j * D ≤ base * D = omega (arith, suc-mul j D) in le_of_mul-le-mul_right k P

    split : base * D ≡ (base - suc j) * D + suc j * D
    split = let g : base ≡ base - suc j + suc j = omega (arith, small) in ap (λ (k : ℕ). k * D) g ∙ add-mul (base - suc j) (suc j) D

    go : (s : Bool) → (s ≡ false → M ≤ D) → Past (suc j) (round binary32 s (M - D) D)
    go true e =
        past_down (suc j) 0 (base - suc j) (round binary32 true (M - D) D) (omega (arith, small))
        (round_mag true (M - D) D 0 (base - suc j) P (omega (arith, zero-mul D)) (omega (arith, split, suc-mul j D)) (omega arith))
    go false e =
        let z : M ≤ D = e refl in
        past_up (suc j) 0 0 (round binary32 false (M - D) D) (omega (arith, small))
        (round_mag false (M - D) D 0 0 P (omega (arith, zero-mul D)) (omega arith) (lit≤ tt))

-- ---- in either direction

-- 1 or -1, by the sign
abbrev pub unit : Bool → Float
unit s = fin s 1 (pos 0)

-- how far x lies in the direction of that sign
abbrev pub directed : Bool → Float → Float
directed false x = x
directed true x = neg x

forward : (j : ℕ) (x : Float) → Past j x → Under 8388608 x → Past (suc j) (x ⊕ unit false)
unfolding add sum
forward j nan h u = h
forward j (inf s) h u = h
forward j (fin false m e) h u = simp (mul-one, one-mul) (step_up j (m * up e) (down e) (down_pos e) h u)
forward j (fin true m e) h u = simp (mul-one, one-mul) (go (ltb (m * up e) (down e)) refl)
  where
    go :
        (b : Bool) →
        b ≡ ltb (m * up e) (down e) →
        Past (suc j)
        (cond b (round binary32 false (down e - m * up e) (down e)) (round binary32 (true && ltb (down e) (m * up e)) (m * up e - down e) (down e)))
    go true q = step_zero j (m * up e) (down e) (down_pos e) h (ltb-true _ _ (sym q))
    go false q = step_down j (m * up e) (down e) _ (down_pos e) h (ltb-false _ _ (sym q)) (ltb-false (down e) (m * up e))

back : (j : ℕ) (x : Float) → Past j (neg x) → Under 8388608 (neg x) → Past (suc j) (neg (x ⊕ unit true))
unfolding add sum neg
back j nan h u = h
back j (inf s) h u = h
back j (fin true m e) h u =
    simp (mul-one, one-mul)
    (subst (λ (z : Float). Past (suc j) z) (sym (neg_round binary32 true (m * up e + down e) (down e))) (step_up j (m * up e) (down e) (down_pos e) h u))
back j (fin false m e) h u = simp (mul-one, one-mul) (go (ltb (m * up e) (down e)) refl)
  where
    go :
        (b : Bool) →
        b ≡ ltb (m * up e) (down e) →
        Past (suc j) (neg (cond b (round binary32 true (down e - m * up e) (down e)) (round binary32 false (m * up e - down e) (down e))))
    go true q =
        subst (λ (z : Float). Past (suc j) z) (sym (neg_round binary32 true (down e - m * up e) (down e)))
        (step_zero j (m * up e) (down e) (down_pos e) h (ltb-true _ _ (sym q)))
    go false q =
        subst (λ (z : Float). Past (suc j) z) (sym (neg_round binary32 false (m * up e - down e) (down e)))
        (step_down j (m * up e) (down e) true (down_pos e) h (ltb-false _ _ (sym q)) (λ f. absurd (true≢false f)))

-- up to 2 ^ 23 in that direction
pub step : (s : Bool) (j : ℕ) (x : Float) → Past j (directed s x) → Under 8388608 (directed s x) → Past (suc j) (directed s (x ⊕ unit s))
step false j x h u = forward j x h u
step true j x h u = back j x h u

-- ---- how far x can be

-- what is at least j and at most k
pub past_under : (j k : ℕ) (x : Float) → Past j x → Under k x → j ≤ base + k
past_under j k nan h u = absurd h
past_under j k (inf s) h u = absurd h
past_under j k (fin false m e) h u =
    let l : j * down e ≤ (base + k) * down e = omega (arith, add-mul base k (down e)) in le_of_mul-le-mul_right l (down_pos e)
past_under j k (fin true m e) h u =
    let l : j * down e ≤ base * down e = omega arith in
    let b : j ≤ base = le_of_mul-le-mul_right l (down_pos e) in
    omega arith

-- what is not above y is at most k where y is
pub under_not : (j k : ℕ) (x y : Float) → Past j x → Under k y → lt y x ≡ false → Under k x
unfolding lt
under_not j k nan y p u t = p
under_not j k (inf s) y p u t = p
under_not j k (fin true m e) y p u t = tt
under_not j k (fin false m e) nan p u t = absurd u
under_not j k (fin false m e) (inf s) p u t = absurd u
under_not j k (fin false m e) (fin true n d) p u t =
    let a = m * up e * down d in
    let b = n * up d * down e in
    let z : a ≤ k * down e * down d = omega (arith, ltb-false 0 (b + a) t) in
    le_of_mul-le-mul_right z (down_pos d)
under_not j k (fin false m e) (fin false n d) p u t =
    let h = ltb-false (n * up d * down e) (m * up e * down d) t in
    let g : n * up d * down e ≤ k * down d * down e = mul-le-mul_right (down e) u in
    let l : m * up e * down d ≤ k * down e * down d = omega (arith, h, g, mul_right_comm k (down d) (down e)) in
    le_of_mul-le-mul_right l (down_pos d)
