-- The whole part of a rounded difference is the exact difference rounded up, or one less.
use mathlib.Core.Path.{◌≡◌, refl, sym, subst}
use mathlib.Core.Bool.{Bool, true, false, not, ◌&&◌, cond, true≢false}
use Prim.Native.Nat.{ℕ, zero, suc, ◌+◌, ◌-◌, ◌*◌, ◌/◌, ◌^◌, ◌≤◌, ◌<◌}
use native.Mathlib.Nat.{le_of_lt, lt_of_not-le, zero-mul, suc-mul, add_comm, div-lt_iff_lt-mul, le-div_iff_mul-le}
use native.Mathlib.Omega.{arith}
use borrow.Author.Tests.{ltb-false}
use lib.Dec.{ltb, lit≤}
use lib.Ieee.{Float, nan, inf, fin, binary32, up, down, below, round, sum, to_unsigned}
use lib.Ieee.Fits.{down_pos}
use Rattle.rounded.proofs.Round.{Mag, round_mag}
use Rattle.stroke_bound.specs.Bound.{up_to}
use Rattle.stroke_bound.proofs.Units.{gap}
use Rattle.stroke_bound.proofs.UpTo.{up_to_over, up_to_least}

-- the whole part of x is k, or one less
abbrev pub Near : ℕ → Float → Type 0
Near k x = (to_unsigned 64 x ≤ k) × (k ≤ suc (to_unsigned 64 x))

near_mag : (k : ℕ) (x : Float) → k ≤ 2 ^ 24 → Mag false (k - 1) k x → Near k x
unfolding to_unsigned
near_mag k nan t h = absurd h
near_mag k (inf s) t h = absurd h
near_mag k (fin true m e) t h = absurd (true≢false h.0)
near_mag k (fin false m e) t h =
    let q = m * up e / down e in
    let a : k - 1 ≤ q = (le-div_iff_mul-le (down_pos e)).1 h.1 in
    let b : q < suc k = (div-lt_iff_lt-mul (down_pos e)).1 (omega (arith, h.2, down_pos e, suc-mul k (down e))) in
    (omega arith, omega arith)

near_minus : (x : Float) → Mag true 0 0 x → Near 0 x
unfolding to_unsigned
near_minus nan h = absurd h
near_minus (inf s) h = absurd h
near_minus (fin false m e) h = absurd (true≢false (sym h.0))
near_minus (fin true m e) h = (omega arith, omega arith)

-- ---- of a quotient

one_less : (c n k : ℕ) → 0 < c → up_to c n ≡ k → (k - 1) * c ≤ n
one_less c n zero C e = omega (arith, zero-mul c)
one_less c n (suc k) C e =
    let z : suc k - 1 ≡ k = omega arith in rw z (le_of_lt (lt_of_not-le (λ (h : n ≤ k * c). omega (arith, up_to_least c n k C h))))

near_plain : (n c : ℕ) → 0 < c → up_to c n ≤ 2 ^ 24 → Near (up_to c n) (round binary32 false n c)
near_plain n c C t =
    let k = up_to c n in
    near_mag k (round binary32 false n c) t (round_mag false n c (k - 1) k C (one_less c n k C refl) (up_to_over c n C) t)

near_as : (n m c : ℕ) → n ≡ m → 0 < c → up_to c n ≤ 2 ^ 24 → Near (up_to c n) (round binary32 false m c)
near_as n m c e C t = subst (λ (z : ℕ). Near (up_to c n) (round binary32 false z c)) e (near_plain n c C t)

-- minus zero
near_none : (n c : ℕ) → 0 < c → n ≤ 0 → Near (up_to c n) (round binary32 true n c)
near_none n c C h =
    let l : n ≤ 0 * c = omega (arith, zero-mul c) in
    let z : up_to c n ≡ 0 = omega (arith, up_to_least c n 0 C l) in
    rw z (near_minus (round binary32 true n c) (round_mag true n c 0 0 C (omega (arith, zero-mul c)) l (lit≤ tt)))

-- ---- of ±b - ±a, over c

pub near :
    (s t : Bool) (a b c : ℕ) → 0 < c → below t b s a ≡ false → up_to c (gap s a t b) ≤ 2 ^ 24 →
    Near (up_to c (gap s a t b)) (sum binary32 t b (not s) a c)
unfolding sum
near true false a b c C o t = rw (add_comm b a) (near_plain (a + b) c C t)
near false true a b c C o t = rw (add_comm b a) (near_none (a + b) c C (omega (arith, ltb-false 0 (b + a) o)))
near false false a b c C o t =
    let l = ltb-false b a o in
    rw o (near_as (a - b + (b - a)) (b - a) c (omega arith) C t)
near true true a b c C o t = go (ltb b a) refl
  where
    go : (u : Bool) → ltb b a ≡ u → Near (up_to c (a - b + (b - a))) (cond u (round binary32 false (a - b) c) (round binary32 (true && ltb a b) (b - a) c))
    go true q = near_as (a - b + (b - a)) (a - b) c (omega (arith, ltb-false a b o)) C t
    go false q = rw o (near_as (a - b + (b - a)) (b - a) c (omega (arith, ltb-false b a q)) C t)
