-- Whole numbers with a sign: their order when negated, and their sizes.
use Rattle.std.proofs.Common.{◌≡◌, ℕ, zero, suc, ◌*◌, ◌<◌, ◌≤◌, Bool, true, false, T, ℤ, pos, negsuc, ◌*ℤ◌, neg_ℤ, sym, refl, ap, ◌∙◌, mul-pos, zero-mul, arith, le→leb, leb→le}
use lib.Signed.{le_z}
use Rattle.float.specs.Units.{signed}

-- ---- the order of negated numbers

pub neg_le : (a b : ℕ) → b ≤ a → T (le_z (neg_ℤ (pos a)) (neg_ℤ (pos b)))
neg_le zero zero h = tt
neg_le zero (suc b) h = absurd (omega arith)
neg_le (suc a) zero h = tt
neg_le (suc a) (suc b) h = le→leb b a (omega arith)

pub neg_back : (a b : ℕ) → T (le_z (neg_ℤ (pos a)) (neg_ℤ (pos b))) → b ≤ a
neg_back zero zero h = omega arith
neg_back zero (suc b) h = absurd h
neg_back (suc a) zero h = omega arith
neg_back (suc a) (suc b) h = omega (arith, leb→le b a h)

pub neg_under : (a b : ℕ) → T (le_z (neg_ℤ (pos a)) (pos b))
neg_under zero b = le→leb 0 b (omega arith)
neg_under (suc a) b = tt

-- a number from 0 up is at most a negated one only where both are 0
pub both_zero : (a b : ℕ) → T (le_z (pos a) (neg_ℤ (pos b))) → (a ≡ 0) × (b ≡ 0)
both_zero a zero h = (omega (arith, leb→le a 0 h), refl)
both_zero a (suc b) h = absurd h

pub scaled : (n d : ℕ) → signed true n *ℤ pos d ≡ neg_ℤ (pos (n * d))
scaled zero d = ap pos (zero-mul d) ∙ ap (λ (k : ℕ). neg_ℤ (pos k)) (sym (zero-mul d))
scaled (suc n) d = refl

-- a product is 0 only by a factor
pub no_less : (j d : ℕ) → 0 < d → suc j * d ≡ 0 → ⊥
no_less j d p h = omega (arith, mul-pos {m = suc j} {n = d} (omega arith) p)

-- ---- the size of a whole number

abbrev pub size : ℤ → ℕ
size (pos n) = n
size (negsuc n) = suc n

pub size_neg : (n : ℕ) → size (neg_ℤ (pos n)) ≡ n
size_neg zero = refl
size_neg (suc n) = refl

pub size_signed : (s : Bool) (n : ℕ) → size (signed s n) ≡ n
size_signed false n = refl
size_signed true n = size_neg n

pub size_times : (k : ℤ) (d : ℕ) → size (k *ℤ pos d) ≡ size k * d
size_times (pos n) d = refl
size_times (negsuc n) d = size_neg (suc n * d)

-- ---- two that are each at most the other

pub same_whole : (a b : ℤ) → T (le_z a b) → T (le_z b a) → a ≡ b
same_whole (pos a) (pos b) h k = ap pos (omega (arith, leb→le a b h, leb→le b a k))
same_whole (pos a) (negsuc b) h k = absurd h
same_whole (negsuc a) (pos b) h k = absurd k
same_whole (negsuc a) (negsuc b) h k = ap negsuc (omega (arith, leb→le b a h, leb→le a b k))
