-- A fraction whose square is a whole number is whole: the root of a whole number is whole or irrational.
-- By descent: from a fraction that is √n and not whole comes another one with a smaller denominator.
use mathlib.Core.Path.{◌≡◌, sym, ap, ◌∙◌}
use Prim.Native.Nat.{ℕ, zero, suc, ◌+◌, ◌-◌, ◌*◌, ◌≤◌, ◌<◌}
use native.Mathlib.Nat.{zero-lt-suc, lt-suc_self, one-mul}
use native.Mathlib.Nat.{add-mul, mul-add, mul_assoc, mul_left_comm, mul_right_comm, mul-mul-mul_comm, mul-pos}
use native.Mathlib.Nat.{mul-le-mul_right, mul-lt-mul_of_pos_right}
use native.Mathlib.Omega.{arith}
use Rattle.root.specs.Root.{whole_root_of}
use Rattle.root.proofs.Squares.{square_add, square_scaled, square_unscaled, square_lt, root_lt}
use Rattle.root.proofs.Whole.{IsRoot, whole_root}

spread : (w q a : ℕ) → (w * q + w * q + a) * a ≡ w * a * q + w * a * q + a * a
spread w q a = rw (add-mul (w * q + w * q) a a, add-mul (w * q) (w * q) a, mul_right_comm w q a)

-- (w * q + a) / q is √(w * w + m), and so is b / a
descends : (w m q a b : ℕ) → (w * q + w * q + a) * a ≡ m * (q * q) → m * q ≡ w * a + b → b * b ≡ (w * w + m) * (a * a)
descends w m q a b e s =
    let c = w * a in
    let t = m * q in
    let squares : t * t ≡ m * (c * q + c * q + a * a) =
    mul-mul-mul_comm m q m q ∙ mul_assoc m m (q * q) ∙ ap (λ (x : ℕ). m * x) (sym e ∙ spread w q a) in
    let terms : m * (c * q + c * q + a * a) ≡ c * t + c * t + m * (a * a) =
    rw (mul-add m (c * q + c * q) (a * a), mul-add m (c * q) (c * q), mul_left_comm m c q) in
    let whole : t * t ≡ (c + b) * (c + b) = ap (λ (x : ℕ). x * x) s in
    let part : c * t ≡ c * c + c * b = ap (λ (x : ℕ). c * x) s ∙ mul-add c c b in
    let side : c * c ≡ w * w * (a * a) = mul-mul-mul_comm w a w a in
    omega (arith, square_add c b, add-mul (c + c) b b, add-mul c c b, add-mul (w * w) m (a * a))

-- ---- w is the whole root of n, and p / q is √n

-- a is what w * q leaves of p, and m what the square of w leaves of n
left : {n p : ℕ} (w m q a : ℕ) → n ≡ w * w + m → p ≡ w * q + a → p * p ≡ n * (q * q) → (w * q + w * q + a) * a ≡ m * (q * q)
left {n} {p} w m q a parts sum e =
    let square : p * p ≡ (w * q + a) * (w * q + a) = ap (λ (x : ℕ). x * x) sum in
    let product : n * (q * q) ≡ (w * w + m) * (q * q) = ap (λ (x : ℕ). x * (q * q)) parts in
    omega (arith, square_add (w * q) a, mul-mul-mul_comm w q w q, add-mul (w * w) m (q * q))

-- so w * a can be taken from m * q: what remains is the next numerator
room : (w m q a : ℕ) → 0 < q → (w * q + w * q + a) * a ≡ m * (q * q) → w * a ≤ m * q
room w m q a some e =
    let over : m * q < w * a → ⊥ =
    λ (l : m * q < w * a). omega (arith, mul-lt-mul_of_pos_right l some, mul_assoc m q q, spread w q a) in
    omega arith

next : {n w p : ℕ} (q a : ℕ) → IsRoot n w → 0 < q → p ≡ w * q + a → p * p ≡ n * (q * q) → (b : ℕ) × (b * b ≡ n * (a * a))
next {n} {w} q a r some sum e =
    let m = n - w * w in
    let parts : n ≡ w * w + m = omega (arith, r.low) in
    let rest = left w m q a parts sum e in
    let split : m * q ≡ w * a + (m * q - w * a) = omega (arith, room w m q a some rest) in
    (m * q - w * a, descends w m q a (m * q - w * a) rest split ∙ ap (λ (x : ℕ). x * (a * a)) (sym parts))

-- p / q is at least w, and below w + 1
from : {n w p : ℕ} (q : ℕ) → IsRoot n w → p * p ≡ n * (q * q) → w * q ≤ p
from {n} {w} {p} q r e =
    let under : p < w * q → ⊥ =
    λ (l : p < w * q). omega (arith, square_lt p (w * q) l, mul-mul-mul_comm w q w q, mul-le-mul_right (q * q) r.low) in
    omega arith

upto : {n w p q : ℕ} → IsRoot n w → 0 < q → p * p ≡ n * (q * q) → p < w * q + q
upto {n} {w} {p} {q} r some e =
    let squares : n * (q * q) < (w + 1) * (w + 1) * (q * q) = mul-lt-mul_of_pos_right r.next (mul-pos some some) in
    let below : p < (w + 1) * q = root_lt p ((w + 1) * q) (omega (arith, mul-mul-mul_comm (w + 1) q (w + 1) q)) in
    omega (arith, add-mul w 1 q, one-mul q)

-- ---- so n is the square of w, and the fraction is w: d is above the denominator, and falls with it
descent : {n w : ℕ} (d p q : ℕ) → IsRoot n w → q < d → 0 < q → p * p ≡ n * (q * q) → w * w ≡ n
descent zero p q r h some e = absurd (omega arith)
descent {n} {w} (suc d) p q r h some e =
    let a = p - w * q in
    let sum : p ≡ w * q + a = omega (arith, from q r e) in
    let s = next q a r some sum e in
    go a sum (λ (more : 0 < a). descent d s.0 a r (omega (arith, upto r some e)) more s.1)
  where
    go : (a : ℕ) → p ≡ w * q + a → (0 < a → w * w ≡ n) → w * w ≡ n
    go zero sum again =
        let all : w * q ≡ p = omega arith in
        square_unscaled w q some (ap (λ (x : ℕ). x * x) all ∙ e)
    go (suc a) sum again = again (zero-lt-suc a)

pub fraction_whole : {n p q : ℕ} → 0 < q → p * p ≡ n * (q * q) → (w : ℕ) × (w * w ≡ n) × (w * q ≡ p)
fraction_whole {n} {p} {q} some e =
    let w = whole_root_of n in
    let r = whole_root n in
    let square : w * w ≡ n = descent (suc q) p q r (lt-suc_self q) some e in
    let same : w * q * (w * q) ≡ p * p = square_scaled w q square ∙ sym e in
    let over : w * q < p → ⊥ = λ (l : w * q < p). omega (arith, square_lt (w * q) p l) in
    (w, square, omega (arith, from q r e))
