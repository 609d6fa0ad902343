-- A finite f32 is fewer than 2 ^ 24 times a power of two, in units of 2 ^ -149: so its units are whole.
use mathlib.Core.Path.{◌≡◌, refl, sym, ap, ◌∙◌}
use mathlib.Core.Bool.{Bool, true, false, ◌&&◌}
use Prim.Native.Nat.{ℕ, zero, suc, ◌+◌, ◌-◌, ◌*◌, ◌%◌, ◌^◌, ◌≤◌, ◌<◌}
use native.Mathlib.Nat.{lt_of_not-le, not-le_of_lt, le_of_suc-le-suc, mul-one, mul_assoc, sub-add_cancel, mul-div_cancel, mul-le-mul_right, le_of_mul-le-mul_right}
use lib.IntN.{ℤ, pos, negsuc}
use lib.Dec.{T, leb, ltb, eqb, leb→le, ltb→lt, lit<, lit≤}
use lib.Pow.{pow-add, pow-lt, pow_mono, pow_pos}
use lib.Ieee.{Float, nan, inf, fin, binary32, up, down, lt, fits}
use lib.Ieee.Exact.{HasValue}
use lib.Ieee.Fits.{and_l, and_r, down_pos}
use lib.Ieee.Order.{transfer}
use lib.Ieee.Scale.{finite}
use borrow.Author.Tests.{ltb-true, ltb-false, lt-ltb, le-ltb}
use Rattle.float.specs.Units.{signed, in_units, units_of}
use Rattle.float.proofs.Sign.{one_zero}

-- ---- powers of two, and their multiples

pub pow_lt_back : (a l : ℕ) → 2 ^ a < 2 ^ l → a < l
pow_lt_back a l h = lt_of_not-le (λ (g : l ≤ a). not-le_of_lt h (pow_mono g))

pub pow_le_back : (a l : ℕ) → 2 ^ a ≤ 2 ^ l → a ≤ l
pow_le_back a l h = le_of_suc-le-suc (lt_of_not-le (λ (g : suc l ≤ a). not-le_of_lt (pow-lt g) h))

-- a multiple of 2 ^ i is one of each lesser power
pub multiple : (n i k : ℕ) → k ≤ i → n * 2 ^ i ≡ n * 2 ^ (i - k) * 2 ^ k
multiple n i k h =
    ap (λ (x : ℕ). n * 2 ^ x) (sym (sub-add_cancel h)) ∙ rw (pow-add 2 (i - k) k) (sym (mul_assoc n (2 ^ (i - k)) (2 ^ k)))

-- ---- what `fits` says of the number m * 2 ^ e, a zero too

pub record InUnits (m : ℕ) (e : ℤ) : Type 0 where
  pub few : m < 2 ^ 24
  pub fine : down e ≤ 2 ^ 149
  pub small : m * up e < 2 ^ 128 * down e
  pub places : ℕ
  pub exact : m * up e * 2 ^ 149 ≡ m * 2 ^ places * down e

-- 2 ^ e is a whole number of units where it is one unit at least
power : (m : ℕ) (e : ℤ) → down e ≤ 2 ^ 149 → (j : ℕ) × (m * up e * 2 ^ 149 ≡ m * 2 ^ j * down e)
power m (pos t) h = (t + 149, rw (pow-add 2 t 149) (mul_assoc m (2 ^ t) (2 ^ 149) ∙ sym (mul-one (m * (2 ^ t * 2 ^ 149)))))
power m (negsuc t) h = (149 - suc t, rw (mul-one m) (multiple m 149 (suc t) (pow_le_back (suc t) 149 h)))

pub in_units_lem : (s : Bool) (m : ℕ) (e : ℤ) → T (fits binary32 (fin s m e)) → InUnits m e
unfolding fits
in_units_lem s zero e f =
    rw (one_zero e f) record { few = lit< tt; fine = lit≤ tt; small = lit< tt; places = 0; exact = refl }
in_units_lem s (suc m) e f =
    let A = eqb (suc m % 2) 1 in
    let B = ltb (suc m) (2 ^ 24) in
    let C = leb (down e) (2 ^ 149) in
    let D = ltb (suc m * up e) (2 ^ 128 * down e) in
    let abc = and_l (A && B && C) D f in
    let fine = leb→le (down e) (2 ^ 149) (and_r (A && B) C abc) in
    let p = power (suc m) e fine in
    record {
      few = ltb→lt (suc m) (2 ^ 24) (and_r A B (and_l (A && B) C abc));
      fine = fine;
      small = ltb→lt (suc m * up e) (2 ^ 128 * down e) (and_r (A && B && C) D f);
      places = p.0;
      exact = p.1;
    }

-- the division in `in_units` leaves nothing over
pub units_are : (s : Bool) (m : ℕ) (e : ℤ) (u : InUnits m e) → in_units (fin s m e) ≡ m * 2 ^ u.places
units_are s m e u = rw u.exact (mul-div_cancel (m * 2 ^ u.places) (down_pos e))

pub units_exact : (s : Bool) (m : ℕ) (e : ℤ) → InUnits m e → m * up e * 2 ^ 149 ≡ in_units (fin s m e) * down e
units_exact s m e u = u.exact ∙ ap (λ (n : ℕ). n * down e) (sym (units_are s m e u))

-- ---- the same of the float's units alone

pub record Representable (n : ℕ) : Type 0 where
  pub digits : ℕ
  pub places : ℕ
  pub few : digits < 2 ^ 24
  pub value : n ≡ digits * 2 ^ places

pub representable : (x : Float) → T (fits binary32 x) → T (finite x) → Representable (in_units x)
representable nan f h = absurd h
representable (inf s) f h = absurd h
representable (fin s m e) f h =
    let u = in_units_lem s m e f in
    record { digits = m; places = u.places; few = u.few; value = units_are s m e u }

-- ---- the units of an exact value

pub units_of_lem : (x : Float) (s : Bool) (n : ℕ) → HasValue x s n (2 ^ 149) → in_units x ≡ n
units_of_lem nan s n v = absurd v
units_of_lem (inf t) s n v = absurd v
units_of_lem (fin t m e) s n v = rw v.1 (mul-div_cancel n (down_pos e))

pub units_of_value : (x : Float) (s : Bool) (n : ℕ) → HasValue x s n (2 ^ 149) → units_of x ≡ signed s n
units_of_value nan s n v = absurd v
units_of_value (inf t) s n v = absurd v
units_of_value (fin t m e) s n v = rw v.0 (ap (signed s) (units_of_lem (fin t m e) s n v))

-- ---- the order of two f32s that are not negative is that of their units

pub lt_units : (m : ℕ) (e : ℤ) (n : ℕ) (d : ℤ) → InUnits m e → InUnits n d
    → lt (fin false m e) (fin false n d) ≡ ltb (in_units (fin false m e)) (in_units (fin false n d))
unfolding lt
lt_units m e n d u v = go (ltb a b) refl
  where
    a : ℕ
    a = in_units (fin false m e)

    b : ℕ
    b = in_units (fin false n d)

    a_exact : m * up e * 2 ^ 149 ≡ a * down e
    a_exact = units_exact false m e u

    b_exact : n * up d * 2 ^ 149 ≡ b * down d
    b_exact = units_exact false n d v

    to_units : n * up d * down e ≤ m * up e * down d → b * 2 ^ 149 ≤ a * 2 ^ 149
    to_units = transfer b a (2 ^ 149) (2 ^ 149) (n * up d) (m * up e) (down d) (down e) (down_pos d) (down_pos e) (sym b_exact) (sym a_exact)

    from_units : b * 2 ^ 149 ≤ a * 2 ^ 149 → n * up d * down e ≤ m * up e * down d
    from_units = transfer (n * up d) (m * up e) (down d) (down e) b a (2 ^ 149) (2 ^ 149) (pow_pos 149) (pow_pos 149) b_exact a_exact

    go : (t : Bool) → ltb a b ≡ t → ltb (m * up e * down d) (n * up d * down e) ≡ t
    go true h = lt-ltb _ _ (lt_of_not-le (λ g. not-le_of_lt (ltb-true a b h) (le_of_mul-le-mul_right (to_units g) (pow_pos 149))))
    go false h = le-ltb _ _ (from_units (mul-le-mul_right (2 ^ 149) (ltb-false a b h)))
