-- The length over a bounded interval is finite and not below zero: positions between 0 and 1 are at most 196,608 in size, so the differences
-- are at most 2 ^ 19, their squares 2 ^ 38 and the sum 2 ^ 39.
use mathlib.Core.Path.{◌≡◌, refl, sym, subst, ◌∙◌}
use mathlib.Core.Bool.{Bool, true, false, cond, true≢false}
use Prim.Native.Nat.{ℕ, zero, suc, ◌+◌, ◌*◌, ◌^◌, ◌≤◌, ◌<◌}
use native.Mathlib.Nat.{le_trans, le_of_eq, mul-one, one-mul, zero-mul, mul-pos, mul_assoc, mul_right_comm, mul-mul-mul_comm, mul-le-mul, mul-le-mul_right, add-mul}
use native.Mathlib.Omega.{arith}
use borrow.Author.Tests.{ltb-false, le-ltb}
use lib.IntN.{ℤ, pos}
use lib.Pow.{pow-add}
use lib.Dec.{eqb, lit≤, lit<}
use lib.Ieee.{Float, nan, inf, fin, binary32, up, down, odd, round, sum, add, mul, lt, le, is_nan, of_bits}
use lib.Ieee.Fits.{down_pos}
use lib.Ieee.Exact.{HasValue, round_exact}
use lib.Ieee.Back.{round_whole}
use lib.Ieee.Scale.{finite}
use Rattle.types.specs.declared.shape.Vec2.{Vec2}
use Rattle.slabs.specs.declared.Interval.{Interval}
use Rattle.slabs.specs.declared.Interval.TheVariants.{Miss, Hit}
use Rattle.float.specs.Rounded.{◌⊕◌, ◌⊖◌, ◌⊗◌, +0, one}
use Rattle.float.specs.Values.{min_of, max_of}
use Rattle.float.proofs.Order.{lt_not}
use Rattle.root.specs.Radicand.{radicand}
use Rattle.root.specs.Root.{dropped, rounded, nearest_root, sqrt_of}
use Rattle.edge2_measure.specs.Measure.{length_of, position_from_ratio_of}
use Rattle.aabb.specs.Clip.{ordered_of}
use Rattle.rounded.specs.Size.{Size}
use Rattle.rounded.proofs.Round.{MagOver, round_over}
use Rattle.rounded.proofs.Sizes.{size_wider, sub_size}
use Rattle.rounded.proofs.Signed.{le_not}
use Rattle.rounded.proofs.Order.{unlike_same, le_of}
use Rattle.stroke_check.proofs.Accepted.{Coordinate, Bounded}
use Rattle.stroke_ink.specs.Ink.{bounded_of, length_over_of}
use Rattle.stroke_ink.proofs.Ends.{Number, min_number, max_number}
use Rattle.stroke_ink.proofs.Narrowed.{Numbers}
use Rattle.stroke_ink.proofs.Positions.{along, along_size}
use Rattle.stroke_ink.proofs.Exact.{zero_held, one_held, from_zero, to_one}

-- ---- a ratio from 0 to 1

unit_size : (x : Float) → is_nan x ≡ false → lt x +0 ≡ false → lt one x ≡ false → Size 1 x
unfolding is_nan lt of_bits
unit_size nan i h k = absurd (true≢false i)
unit_size (inf true) i h k = absurd (true≢false h)
unit_size (inf false) i h k = absurd (true≢false k)
unit_size (fin true m e) i h k = omega (arith, ltb-false 0 (m * up e * 1 + 0 * down e) h, mul-one (m * up e))
unit_size (fin false m e) i h k = omega (arith, ltb-false (1 * down e) (m * up e * 1) k, mul-one (m * up e))

-- ---- from 0 to a power of two

-- x is finite, not negative, and at most 2 ^ j
abbrev UpTo : ℕ → Float → Type 0
UpTo j x = MagOver 1 false 0 (2 ^ j) x

power_exact : (j : ℕ) → 2 ^ j * 2 ^ 149 < 2 ^ 277 → HasValue (round binary32 false (2 ^ j) 1) false (2 ^ j) 1
power_exact j h =
    let e : 1 * 2 ^ (j + 149) ≡ 2 ^ j * 2 ^ 149 = one-mul (2 ^ (j + 149)) ∙ pow-add 2 j 149 in
    round_exact binary32 false (2 ^ j) 1 1 (j + 149) (lit≤ tt) (lit< tt) (subst (λ (z : ℕ). z < 2 ^ 277) (sym e) h) (sym (mul-one (1 * 2 ^ (j + 149)) ∙ e))

round_up_to : (j a c : ℕ) → 2 ^ j * 2 ^ 149 < 2 ^ 277 → 0 < c → a ≤ 2 ^ j * c → UpTo j (round binary32 false a c)
round_up_to j a c h C l =
    round_over 1 a c 0 (2 ^ j) (lit≤ tt) C (round_whole binary32 false 0 (lit≤ tt)) (power_exact j h) (omega (arith, zero-mul c)) (rw mul-one l) false

square_up_to : (x : Float) → Size (2 ^ 19) x → UpTo 38 (x ⊗ x)
unfolding mul
square_up_to nan h = absurd h
square_up_to (inf s) h = absurd h
square_up_to (fin s m e) h =
    let A = m * up e in
    let D = down e in
    rw (unlike_same s)
    (round_up_to 38 (A * A) (D * D) (lit< tt) (mul-pos (down_pos e) (down_pos e))
    (le_trans (mul-le-mul h h) (le_of_eq (mul-mul-mul_comm (2 ^ 19) D (2 ^ 19) D))))

sum_up_to : (x y : Float) → UpTo 38 x → UpTo 38 y → UpTo 39 (x ⊕ y)
unfolding add sum
sum_up_to nan y h k = absurd h
sum_up_to (inf s) y h k = absurd h
sum_up_to (fin s m e) nan h k = absurd k
sum_up_to (fin s m e) (inf t) h k = absurd k
sum_up_to (fin true m e) (fin t n d) h k = absurd (true≢false h.0)
sum_up_to (fin false m e) (fin true n d) h k = absurd (true≢false k.0)
sum_up_to (fin false m e) (fin false n d) h k =
    round_up_to 39 (m * up e * down d + n * up d * down e) (down e * down d) (lit< tt) (mul-pos (down_pos e) (down_pos d))
    (together (m * up e) (down e) (n * up d) (down d) (2 ^ 38) (rw mul-one at h.2) (rw mul-one at k.2))
  where
    together : (A E B F q : ℕ) → A ≤ q * E → B ≤ q * F → A * F + B * E ≤ (q + q) * (E * F)
    together A E B F q h k =
        let i : A * F ≤ q * E * F = mul-le-mul_right F h in
        let j : B * E ≤ q * F * E = mul-le-mul_right E k in
        omega (arith, mul_right_comm q F E, mul_assoc q E F, add-mul q q (E * F))

-- ---- its root

-- x is finite and not below zero
pub record Length (x : Float) : Type 0 where
  pub is_finite : finite x ≡ true
  pub not_negative : le +0 x ≡ true

plus_length : (m : ℕ) (e : ℤ) → Length (fin false m e)
plus_length m e = record {
  is_finite = refl;
  not_negative = le_of +0 (fin false m e) (unfold is_nan of_bits in refl) (unfold is_nan in refl) (not_below m e);
}
  where
    not_below : (m : ℕ) (e : ℤ) → lt (fin false m e) +0 ≡ false
    not_below m e = unfold lt of_bits in le-ltb (m * up e * 1) (0 * down e) (omega (arith, zero-mul (down e)))

odd_length : (d q k l : ℕ) → Length (odd d false q k l)
unfolding odd
odd_length d zero k l = plus_length 0 (pos 0)
odd_length d (suc q) k l = plus_length _ _

root_length : (j : ℕ) (x : Float) → UpTo j x → Length (sqrt_of x)
unfolding sqrt_of nearest_root
root_length j nan h = absurd h
root_length j (inf s) h = absurd h
root_length j (fin true m e) h = absurd (true≢false h.0)
root_length j (fin false m e) h = go (eqb m 0)
  where
    n : ℕ
    n = radicand (fin false m e)

    go : (b : Bool) → Length (cond b (fin false m e) (odd 25 false (rounded n) (dropped n) 149))
    go true = plus_length m e
    go false = odd_length 25 (rounded n) (dropped n) 149

-- ---- between two positions

none_length : Length +0
unfolding of_bits
none_length = plus_length 0 (pos 0)

between_length : {p q : Vec2} → Bounded p q → (t u : Float) → Size 1 t → Size 1 u → Length (length_of (position_from_ratio_of p q t) (position_from_ratio_of p q u))
between_length {p} {q} w t u h k =
    let x = along p.x q.x t ⊖ along p.x q.x u in
    let y = along p.y q.y t ⊖ along p.y q.y u in
    root_length 39 (x ⊗ x ⊕ y ⊗ y)
    (sum_up_to (x ⊗ x) (y ⊗ y) (square_up_to x (apart p.x q.x w.x0 w.x1)) (square_up_to y (apart p.y q.y w.y0 w.y1)))
  where
    apart : (a b : Float) → Coordinate a → Coordinate b → Size (2 ^ 19) (along a b t ⊖ along a b u)
    apart a b A B =
        size_wider 393216 (2 ^ 19) (along a b t ⊖ along a b u) (lit≤ tt)
        (sub_size 196608 196608 (along a b t) (along a b u) (along_size a b t A B h) (along_size a b u A B k) (lit≤ tt))

pub bounded_length : {p q : Vec2} → Bounded p q → (i : Interval) → Numbers i → Length (length_over_of p q (bounded_of i))
unfolding bounded_of ordered_of length_over_of
bounded_length w Miss n = none_length
bounded_length {p} {q} w (Hit t u) n = go (le (max_of t +0) (min_of u one)) refl
  where
    low : Number (max_of t +0)
    low = max_number t +0 n.0 zero_held.fit

    high : Number (min_of u one)
    high = min_number u one n.1 one_held.fit

    go : (v : Bool) → le (max_of t +0) (min_of u one) ≡ v → Length (length_over_of p q (cond v (Hit (max_of t +0) (min_of u one)) Miss))
    go false e = none_length
    go true e =
        let back = le_not (max_of t +0) (min_of u one) (rw e tt) in
        between_length w (max_of t +0) (min_of u one)
        (unit_size (max_of t +0) low.number (from_zero t) (lt_not one (min_of u one) (max_of t +0) high.number (to_one u) back))
        (unit_size (min_of u one) high.number (lt_not (min_of u one) (max_of t +0) +0 low.number back (from_zero t)) (to_one u))
