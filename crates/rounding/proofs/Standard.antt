-- `floor_of` and `ceil_of` are IEEE 754's roundToIntegralTowardNegative and TowardPositive, and nothing else is.
use Rattle.std.proofs.Common.{◌≡◌, ℕ, zero, suc, ◌*◌, ◌≤◌, Bool, true, false, not, T, ℤ, pos, negsuc, ◌*ℤ◌, neg_ℤ, sym, refl, ap, ◌∙◌, subst, mul-one, arith, le→leb, leb→le}
use lib.Signed.{le_z}
use lib.Ieee.{Float, nan, inf, fin, binary32, up, down, neg, fits}
use lib.Ieee.Fits.{down_pos, nan-fits, inf-fits, neg-fits, round-fits}
use lib.Ieee.Exact.{HasValue}
use lib.Ieee.Back.{whole_unique}
use lib.Ieee.Scale.{finite}
use denote.Floats.{passes}
use Rattle.rounding.specs.Values.{size_down, size_up, whole_of, floor_of, ceil_of}
use Rattle.float.specs.Units.{signed}
use Rattle.rounding.specs.Integral.{sign, Equal, at_most, at_least, TowardNegative, TowardPositive}
use Rattle.rounding.specs.Promise.{RoundsToIntegral}
use Rattle.rounding.proofs.Integers.{neg_le, neg_back, neg_under, both_zero, scaled, no_less, size, size_signed, size_times, same_whole}
use Rattle.rounding.proofs.Whole.{ceil_by_floor}
use Rattle.rounding.proofs.Ends.{down_greatest, up_least, down_exact, up_exact}

-- ---- a float whose value is a whole number, by its sign and size

whole : (s : Bool) (n : ℕ) (r : Float) → HasValue r s n 1 → Equal (signed s n) r × (sign r ≡ s)
whole s n nan v = absurd v
whole s n (inf t) v = absurd v
whole s n (fin t m e) v = (equal s t v.0, v.0)
  where
    sizes : n * down e ≡ m * up e
    sizes = sym v.1 ∙ mul-one (m * up e)

    equal : (s t : Bool) → t ≡ s → signed s n *ℤ pos (down e) ≡ signed t (m * up e)
    equal false false h = ap pos sizes
    equal true true h = scaled n (down e) ∙ ap (λ (k : ℕ). neg_ℤ (pos k)) sizes
    equal true false h = absurd (passes _ h)
    equal false true h = absurd (subst T h tt)

value_of_lem : (k : ℤ) (r : Float) → Equal k r → HasValue r (sign r) (size k) 1
value_of_lem k nan v = absurd v
value_of_lem k (inf t) v = absurd v
value_of_lem k (fin t m e) v =
    (refl, mul-one (m * up e) ∙ sym (size_signed t (m * up e)) ∙ ap size (sym v) ∙ size_times k (down e))

-- ---- toward the negative

down_plus : (m : ℕ) (e : ℤ) (k : ℤ) → T (at_most k (fin false m e)) → T (le_z k (pos (size_down m e)))
down_plus m e (pos k) h = le→leb k _ ((down_greatest m e).greatest k (leb→le (k * down e) (m * up e) h))
down_plus m e (negsuc k) h = tt

down_minus : (m : ℕ) (e : ℤ) (k : ℤ) → T (at_most k (fin true m e)) → T (le_z k (neg_ℤ (pos (size_up m e))))
down_minus m e (pos k) h =
    let z = both_zero (k * down e) (m * up e) h in
    let least = (up_least m e).least 0 (omega (arith, z.1)) in
    let none : 0 ≡ size_up m e = omega arith in
    subst (λ (n : ℕ). T (le_z (pos k) (neg_ℤ (pos n)))) none (le→leb k 0 (small k z.0))
  where
    small : (k : ℕ) → k * down e ≡ 0 → k ≤ 0
    small zero h = omega arith
    small (suc j) h = absurd (no_less j (down e) (down_pos e) h)
down_minus m e (negsuc k) h = neg_le (suc k) (size_up m e) ((up_least m e).least (suc k) (neg_back (suc k * down e) (m * up e) h))

toward_negative : (x r : Float) (n : ℕ) → HasValue r (sign x) n 1 → T (at_most (signed (sign x) n) x)
    → ((k : ℤ) → T (at_most k x) → T (le_z k (signed (sign x) n))) → TowardNegative x r
toward_negative x r n v not_above closest =
    let is = whole (sign x) n r v in
    record { n = signed (sign x) n; exact = is.0; not_above = not_above; closest = closest; sign_of_floor = cc is.1 }

pub floor_is : (x : Float) → T (fits binary32 x) → T (finite x) → TowardNegative x (floor_of x)
unfolding floor_of
floor_is nan f h = absurd h
floor_is (inf s) f h = absurd h
floor_is (fin false m e) f h =
    toward_negative (fin false m e) _ (size_down m e) (down_exact false m e f)
    (le→leb _ (m * up e) (down_greatest m e).not_above)
    (down_plus m e)
floor_is (fin true m e) f h =
    toward_negative (fin true m e) _ (size_up m e) (up_exact true m e f)
    (rw (scaled (size_up m e) (down e)) (neg_le _ _ (up_least m e).not_below))
    (down_minus m e)

-- ---- toward the positive

up_plus : (m : ℕ) (e : ℤ) (k : ℤ) → T (at_least k (fin false m e)) → T (le_z (pos (size_up m e)) k)
up_plus m e (pos k) h = le→leb _ k ((up_least m e).least k (leb→le (m * up e) (k * down e) h))
up_plus m e (negsuc k) h = absurd (no_less k (down e) (down_pos e) (both_zero (m * up e) (suc k * down e) h).1)

up_minus : (m : ℕ) (e : ℤ) (k : ℤ) → T (at_least k (fin true m e)) → T (le_z (neg_ℤ (pos (size_down m e))) k)
up_minus m e (pos k) h = neg_under (size_down m e) k
up_minus m e (negsuc k) h = neg_le (size_down m e) (suc k) ((down_greatest m e).greatest (suc k) (neg_back (m * up e) (suc k * down e) h))

toward_positive : (x r : Float) (n : ℕ) → HasValue r (sign x) n 1 → T (at_least (signed (sign x) n) x)
    → ((k : ℤ) → T (at_least k x) → T (le_z (signed (sign x) n) k)) → TowardPositive x r
toward_positive x r n v not_below closest =
    let is = whole (sign x) n r v in
    record { n = signed (sign x) n; exact = is.0; not_below = not_below; closest = closest; sign_of_ceiling = cc is.1 }

pub ceil_is : (x : Float) → T (fits binary32 x) → T (finite x) → TowardPositive x (ceil_of x)
unfolding ceil_of
ceil_is nan f h = absurd h
ceil_is (inf s) f h = absurd h
ceil_is (fin false m e) f h =
    toward_positive (fin false m e) _ (size_up m e) (up_exact false m e f)
    (le→leb (m * up e) _ (up_least m e).not_below)
    (up_plus m e)
ceil_is (fin true m e) f h =
    toward_positive (fin true m e) _ (size_down m e) (down_exact true m e f)
    (rw (scaled (size_down m e) (down e)) (neg_le _ _ (down_greatest m e).not_above))
    (up_minus m e)

-- ---- one result only

one_value : (a b : ℤ) (r q : Float) → T (fits binary32 r) → T (fits binary32 q) → sign r ≡ sign q → a ≡ b → Equal a r → Equal b q → r ≡ q
one_value a b r q f g signs is v w =
    whole_unique binary32 r q (sign q) (size b) f g (rw signs at (rw is at (value_of_lem a r v))) (value_of_lem b q w)

pub floor_only : (x r q : Float) → T (fits binary32 r) → T (fits binary32 q) → TowardNegative x r → TowardNegative x q → r ≡ q
floor_only x r q f g a b =
    let signs : sign r ≡ sign q = cc (a.sign_of_floor, b.sign_of_floor) in
    let is = same_whole a.n b.n (b.closest a.n a.not_above) (a.closest b.n b.not_above) in
    one_value a.n b.n r q f g signs is a.exact b.exact

pub ceil_only : (x r q : Float) → T (fits binary32 r) → T (fits binary32 q) → TowardPositive x r → TowardPositive x q → r ≡ q
ceil_only x r q f g a b =
    let signs : sign r ≡ sign q = cc (a.sign_of_ceiling, b.sign_of_ceiling) in
    let is = same_whole a.n b.n (a.closest b.n b.not_below) (b.closest a.n a.not_below) in
    one_value a.n b.n r q f g signs is a.exact b.exact

-- ---- the contracts, for whatever is `floor_of x` or `ceil_of x`

module _ (Toward : Float → Float → Type 0) (value_of : Float → Float) (x : Float) where
  rounds_to : T (fits binary32 (value_of x)) → (T (finite x) → Toward x (value_of x))
      → ((r q : Float) → T (fits binary32 r) → T (fits binary32 q) → Toward x r → Toward x q → r ≡ q)
      → (T (not (finite x)) → value_of x ≡ x) → (r : Float) → r ≡ value_of x → RoundsToIntegral Toward value_of x r
  rounds_to f rounds only kept r is = rw is record {
    answers = refl;
    rounds = rounds;
    only = λ h q g t. only q (value_of x) g f t (rounds h);
    kept = kept;
  }

floor_fits : (x : Float) → T (fits binary32 (floor_of x))
unfolding floor_of whole_of
floor_fits nan = nan-fits binary32
floor_fits (inf s) = inf-fits binary32 s
floor_fits (fin false m e) = round-fits binary32 false (size_down m e) 1
floor_fits (fin true m e) = round-fits binary32 true (size_up m e) 1

floor_kept : (x : Float) → T (not (finite x)) → floor_of x ≡ x
unfolding floor_of
floor_kept nan h = refl
floor_kept (inf s) h = refl
floor_kept (fin s m e) h = absurd h

pub floor_rounds : (x r : Float) → T (fits binary32 x) → r ≡ floor_of x → RoundsToIntegral TowardNegative floor_of x r
floor_rounds x r f = rounds_to TowardNegative floor_of x (floor_fits x) (floor_is x f) (floor_only x) (floor_kept x) r

ceil_fits : (x : Float) → T (fits binary32 (ceil_of x))
ceil_fits x = rw (← ceil_by_floor x) (neg-fits binary32 (floor_of (neg x)) (floor_fits (neg x)))

ceil_kept : (x : Float) → T (not (finite x)) → ceil_of x ≡ x
unfolding ceil_of
ceil_kept nan h = refl
ceil_kept (inf s) h = refl
ceil_kept (fin s m e) h = absurd h

pub ceil_rounds : (x r : Float) → T (fits binary32 x) → r ≡ ceil_of x → RoundsToIntegral TowardPositive ceil_of x r
ceil_rounds x r f = rounds_to TowardPositive ceil_of x (ceil_fits x) (ceil_is x f) (ceil_only x) (ceil_kept x) r
