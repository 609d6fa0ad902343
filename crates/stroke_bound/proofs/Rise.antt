-- The exact difference of two f32, rounded up, by the whole part of the rounded one and two tests.
use mathlib.Core.Path.{◌≡◌, refl, sym, ap, ◌∙◌, subst}
use mathlib.Core.Bool.{Bool, true, false, not, ◌||◌, cond}
use Prim.Native.Nat.{ℕ, ◌+◌, ◌*◌, ◌^◌, ◌≤◌, ◌<◌}
use native.Mathlib.Nat.{le_refl, le_trans, mul-pos, mul_comm, mul_assoc, mul-le-mul_right}
use native.Mathlib.Omega.{arith}
use native.Mathlib.Decide.{dec_le}
use borrow.Author.Tests.{ltb-true, ltb-false}
use lib.IntN.{ℤ, pos}
use lib.Pow.{pow_pos}
use lib.Dec.{T, ltb, lit≤}
use lib.Ieee.{Float, nan, inf, fin, binary32, up, down, below, neg, sub, add, lt, fits, to_unsigned, of_int}
use lib.Ieee.Fits.{down_pos, neg-fits}
use lib.Ieee.Exact.{HasValue}
use Rattle.float.specs.Rounded.{◌⊖◌}
use Rattle.float.specs.Units.{in_units}
use Rattle.float.proofs.Casts.{of_int_lem}
use Rattle.float.proofs.Negated.{neg_lt}
use Rattle.rounded.specs.Size.{Size}
use Rattle.rounded.proofs.Sizes.{size_wider}
use Rattle.rounded.proofs.Down.{exact}
use Rattle.rounded.proofs.Whole.{less_whole}
use Rattle.stroke_bound.specs.Bound.{difference_of, up_to}
use Rattle.stroke_bound.proofs.Units.{gap, signed_gap, difference_over}
use Rattle.stroke_bound.proofs.UpTo.{up_to_least, up_to_same, up_to_either}
use Rattle.stroke_bound.proofs.Left.{left_not, left_above}
use Rattle.stroke_bound.proofs.Cut.{Near, near}

-- ---- the gap, from either side

gap_back : (s t : Bool) (a b : ℕ) → gap t b s a ≡ gap s a t b
gap_back true true a b = omega arith
gap_back true false a b = omega arith
gap_back false true a b = omega arith
gap_back false false a b = omega arith

gap_turned : (s t : Bool) (a b : ℕ) → gap (not t) b (not s) a ≡ gap s a t b
gap_turned true true a b = omega arith
gap_turned true false a b = omega arith
gap_turned false true a b = omega arith
gap_turned false false a b = omega arith

gap_most : (s t : Bool) (a b : ℕ) → gap s a t b ≤ a + b
gap_most true true a b = omega arith
gap_most true false a b = omega arith
gap_most false true a b = omega arith
gap_most false false a b = omega arith

pub difference_back : (k l : ℕ) (x y : Float) → Size k x → Size l y → difference_of y x ≡ difference_of x y
difference_back k l nan y a b = absurd a
difference_back k l (inf s) y a b = absurd a
difference_back k l (fin s m e) nan a b = absurd b
difference_back k l (fin s m e) (inf t) a b = absurd b
difference_back k l (fin s m e) (fin t n d) a b =
    let i = in_units (fin s m e) in
    let j = in_units (fin t n d) in
    signed_gap t j s i ∙ gap_back s t i j ∙ sym (signed_gap s i t j)

-- ---- the tests

not_left :
    (s : Bool) (m : ℕ) (e : ℤ) (t : Bool) (n : ℕ) (d : ℤ) (w : Float) (k : ℕ) → T (fits binary32 (fin s m e)) → Size 65536 (fin s m e) →
    lt (fin t n d) (fin s m e) ≡ false → HasValue w false k 1 → gap s (m * up e * down d) t (n * up d * down e) ≤ k * (down e * down d) →
    lt (fin s m e) (fin t n d ⊖ w) ≡ false
unfolding lt
not_left s m e t n d w k f a o v h =
    ap (lt (fin s m e)) (less_whole t n d w k v)
    ∙ left_not (fin s m e) (m * up e) (down e) (n * up d) (down d) k (down_pos e) (down_pos d) s t (refl, refl)
    (exact s s m e (m * up e) f (size_wider 65536 8388608 (fin s m e) (lit≤ tt) a) (le_refl (m * up e))) o h

above_left :
    (s : Bool) (m : ℕ) (e : ℤ) (n : ℕ) (d : ℤ) (w : Float) (k : ℕ) → T (fits binary32 (fin false n d)) → Size 65536 (fin false n d) →
    HasValue w false k 1 → m * up e * down d ≤ n * up d * down e → k * (down e * down d) < gap s (m * up e * down d) false (n * up d * down e) →
    lt (fin s m e) (fin false n d ⊖ w) ≡ true
above_left s m e n d w k f a v o h =
    ap (lt (fin s m e)) (less_whole false n d w k v)
    ∙ left_above (fin s m e) (m * up e) (down e) (n * up d) (down d) k (down_pos e) (down_pos d) s (refl, refl)
    (λ z r l. exact z false n d r f (size_wider 65536 8388608 (fin false n d) (lit≤ tt) a) l) o h

-- whether taking w leaves more than the lower number, or so with the signs turned
abbrev pub leaves : Float → Float → Float → Bool
leaves x y w = lt x (y ⊖ w) || lt (neg y) (neg x ⊖ w)

first : (p q : Bool) → p ≡ true → (p || q) ≡ true
first p q h = ap (λ (z : Bool). z || q) h

second : (p q : Bool) → q ≡ true → (p || q) ≡ true
second true q h = refl
second false q h = h

told :
    (s : Bool) (m : ℕ) (e : ℤ) (t : Bool) (n : ℕ) (d : ℤ) (w : Float) (k : ℕ) → T (fits binary32 (fin s m e)) → T (fits binary32 (fin t n d)) →
    Size 65536 (fin s m e) → Size 65536 (fin t n d) → lt (fin t n d) (fin s m e) ≡ false → HasValue w false k 1 →
    k * (down e * down d) < gap s (m * up e * down d) t (n * up d * down e) → leaves (fin s m e) (fin t n d) w ≡ true
unfolding neg lt
told s m e t n d w k f g a b o v h = go s t f g o h
  where
    A : ℕ
    A = m * up e * down d

    B : ℕ
    B = n * up d * down e

    by_high : (s : Bool) → T (fits binary32 (fin false n d)) → A ≤ B → k * (down e * down d) < gap s A false B → leaves (fin s m e) (fin false n d) w ≡ true
    by_high s g l h =
        first (lt (fin s m e) (fin false n d ⊖ w)) (lt (fin true n d) (fin (not s) m e ⊖ w)) (above_left s m e n d w k g b v l h)

    by_low : (t : Bool) → T (fits binary32 (fin true m e)) → B ≤ A → k * (down e * down d) < gap true A t B → leaves (fin true m e) (fin t n d) w ≡ true
    by_low t f l h =
        second (lt (fin true m e) (fin t n d ⊖ w)) (lt (fin (not t) n d) (fin false m e ⊖ w))
        (above_left (not t) n d m e w k (neg-fits binary32 (fin true m e) f) a v l (omega (arith, h, gap_turned true t A B)))

    go :
        (s t : Bool) → T (fits binary32 (fin s m e)) → T (fits binary32 (fin t n d)) → below t B s A ≡ false → k * (down e * down d) < gap s A t B →
        leaves (fin s m e) (fin t n d) w ≡ true
    go false false f g o h = by_high false g (ltb-false B A o) h
    go true true f g o h = by_low true f (ltb-false A B o) h
    go false true f g o h = absurd (omega (arith, h, ltb-false 0 (B + A) o))
    go true false f g o h = elim (dec_le A B) [ yes l ↦ by_high true g l h | no l ↦ by_low false f (omega arith) h ]

tests :
    (s : Bool) (m : ℕ) (e : ℤ) (t : Bool) (n : ℕ) (d : ℤ) (w : Float) (k : ℕ) → T (fits binary32 (fin s m e)) → T (fits binary32 (fin t n d)) →
    Size 65536 (fin s m e) → Size 65536 (fin t n d) → lt (fin t n d) (fin s m e) ≡ false → HasValue w false k 1 →
    leaves (fin s m e) (fin t n d) w ≡ ltb (k * (down e * down d)) (gap s (m * up e * down d) t (n * up d * down e))
unfolding neg
tests s m e t n d w k f g a b o v = go (ltb (k * (down e * down d)) (gap s A t B)) refl
  where
    A : ℕ
    A = m * up e * down d

    B : ℕ
    B = n * up d * down e

    turned : gap (not t) B (not s) A ≡ gap s A t B
    turned = gap_turned s t A B

    below_turned : lt (fin (not s) m e) (fin (not t) n d) ≡ false
    below_turned = neg_lt (fin s m e) (fin t n d) ∙ o

    x : Float
    x = fin s m e

    y : Float
    y = fin t n d

    go : (u : Bool) → ltb (k * (down e * down d)) (gap s A t B) ≡ u → (lt x (y ⊖ w) || lt (neg y) (neg x ⊖ w)) ≡ u
    go false q =
        let h = ltb-false (k * (down e * down d)) (gap s A t B) q in
        ap (λ (z : Bool). z || lt (neg y) (neg x ⊖ w)) (not_left s m e t n d w k f a o v h)
        ∙ not_left (not t) n d (not s) m e w k (neg-fits binary32 (fin t n d) g) b below_turned v (omega (arith, h, turned))
    go true q = told s m e t n d w k f g a b o v (ltb-true (k * (down e * down d)) (gap s A t B) q)

-- ---- the whole part

rise_most :
    (s : Bool) (m : ℕ) (e : ℤ) (t : Bool) (n : ℕ) (d : ℤ) → Size 65536 (fin s m e) → Size 65536 (fin t n d) →
    up_to (down e * down d) (gap s (m * up e * down d) t (n * up d * down e)) ≤ 131072
rise_most s m e t n d a b =
    let A = m * up e * down d in
    let B = n * up d * down e in
    let E = down e in
    let D = down d in
    let i : A ≤ 65536 * E * D = mul-le-mul_right D a in
    let j : B ≤ 65536 * D * E = mul-le-mul_right E b in
    up_to_least (E * D) (gap s A t B) 131072 (mul-pos (down_pos e) (down_pos d))
    (omega (arith, gap_most s t A B, i, j, mul_assoc 65536 E D, mul_assoc 65536 D E, mul_comm D E))

rise_near :
    (s : Bool) (m : ℕ) (e : ℤ) (t : Bool) (n : ℕ) (d : ℤ) → Size 65536 (fin s m e) → Size 65536 (fin t n d) → lt (fin t n d) (fin s m e) ≡ false →
    Near (up_to (down e * down d) (gap s (m * up e * down d) t (n * up d * down e))) (fin t n d ⊖ fin s m e)
unfolding sub add neg lt
rise_near s m e t n d a b o =
    let A = m * up e * down d in
    let B = n * up d * down e in
    let c : down d * down e ≡ down e * down d = mul_comm (down d) (down e) in
    let l : up_to (down d * down e) (gap s A t B) ≤ 2 ^ 24 =
    rw c (le_trans (rise_most s m e t n d a b) (lit≤ tt)) in
    subst (λ (z : ℕ). Near (up_to z (gap s A t B)) (fin t n d ⊖ fin s m e)) c (near s t A B (down d * down e) (mul-pos (down_pos d) (down_pos e)) o l)

-- ---- both

pub rise_small : (x y : Float) → Size 65536 x → Size 65536 y → lt y x ≡ false → to_unsigned 64 (y ⊖ x) ≤ 131072
rise_small nan y a b o = absurd a
rise_small (inf s) y a b o = absurd a
rise_small (fin s m e) nan a b o = absurd b
rise_small (fin s m e) (inf t) a b o = absurd b
rise_small (fin s m e) (fin t n d) a b o = le_trans (rise_near s m e t n d a b o).0 (rise_most s m e t n d a b)

pub rise_is :
    (x y : Float) → T (fits binary32 x) → T (fits binary32 y) → Size 65536 x → Size 65536 y → lt y x ≡ false →
    let k = to_unsigned 64 (y ⊖ x) in
    cond (leaves x y (of_int binary32 (pos k))) (k + 1) k ≡ up_to (2 ^ 149) (difference_of x y)
rise_is nan y f g a b o = absurd a
rise_is (inf s) y f g a b o = absurd a
rise_is (fin s m e) nan f g a b o = absurd b
rise_is (fin s m e) (inf t) f g a b o = absurd b
rise_is (fin s m e) (fin t n d) f g a b o =
    let k = to_unsigned 64 (fin t n d ⊖ fin s m e) in
    let c = down e * down d in
    let r = gap s (m * up e * down d) t (n * up d * down e) in
    let p : 0 < c = mul-pos (down_pos e) (down_pos d) in
    let h = rise_near s m e t n d a b o in
    ap (λ (z : Bool). cond z (k + 1) k)
    (tests s m e t n d (of_int binary32 (pos k)) k f g a b o (of_int_lem k (le_trans (rise_small (fin s m e) (fin t n d) a b o) (lit≤ tt))))
    ∙ up_to_either c r k p h.0 h.1
    ∙ up_to_same c r (2 ^ 149) (difference_of (fin s m e) (fin t n d)) p (pow_pos 149) (difference_over s m e t n d f g)
