-- A whole number taken from an f32, over the denominator of the f32.
use mathlib.Core.Path.{◌≡◌, sym, ap, ◌∙◌}
use mathlib.Core.Bool.{Bool, true, false, ◌&&◌, cond, beq, true≢false}
use Prim.Native.Nat.{ℕ, ◌+◌, ◌-◌, ◌*◌, ◌<◌}
use native.Mathlib.Nat.{mul-one, mul-pos, mul_comm, mul_assoc, mul_right_comm, add-mul}
use lib.IntN.{ℤ}
use lib.Dec.{ltb}
use lib.Ieee.{Float, nan, inf, fin, binary32, up, down, round, neg, sum, add, sub}
use lib.Ieee.Fits.{down_pos}
use lib.Ieee.Exact.{HasValue}
use lib.Ieee.Scale.{round_same}
use Rattle.float.specs.Rounded.{◌⊖◌}
use Rattle.float.proofs.Order.{ltb_scaled}
use Rattle.rounded.proofs.Apart.{sub_mul}

pub sum_scaled : (s : Bool) (a : ℕ) (t : Bool) (b c k : ℕ) → 0 < c → 0 < k → sum binary32 s (a * k) t (b * k) (c * k) ≡ sum binary32 s a t b c
unfolding sum
sum_scaled s a t b c k C K = go (beq s t) (ltb a b) (ltb b a) (ltb_scaled a b k K) (ltb_scaled b a k K)
  where
    same : (u : Bool) (m n : ℕ) → m ≡ n * k → round binary32 u m (c * k) ≡ round binary32 u n c
    same u m n e =
        ap (λ (z : ℕ). round binary32 u z (c * k)) e
        ∙ round_same binary32 u (n * k) (c * k) n c (mul-pos C K) C (mul_assoc n k c ∙ ap (λ (z : ℕ). n * z) (mul_comm k c))

    go :
        (u v w : Bool) →
        v ≡ ltb (a * k) (b * k) →
        w ≡ ltb (b * k) (a * k) →
        cond u (round binary32 s (a * k + b * k) (c * k))
        (cond (ltb (a * k) (b * k)) (round binary32 t (b * k - a * k) (c * k)) (round binary32 (s && ltb (b * k) (a * k)) (a * k - b * k) (c * k)))
        ≡ cond u (round binary32 s (a + b) c) (cond v (round binary32 t (b - a) c) (round binary32 (s && w) (a - b) c))
    go true v w p q = same s (a * k + b * k) (a + b) (sym (add-mul a b k))
    go false true w p q = rw (sym p) (same t (b * k - a * k) (b - a) (sym (sub_mul b a k)))
    go false false w p q = rw (sym p, sym q) (same (s && w) (a * k - b * k) (a - b) (sym (sub_mul a b k)))

pub less_whole :
    (t : Bool) (n : ℕ) (d : ℤ) (w : Float) (k : ℕ) → HasValue w false k 1 →
    fin t n d ⊖ w ≡ sum binary32 t (n * up d) true (k * down d) (down d)
unfolding sub add neg
less_whole t n d nan k v = absurd v
less_whole t n d (inf s) k v = absurd v
less_whole t n d (fin true i j) k v = absurd (true≢false v.0)
less_whole t n d (fin false i j) k v =
    ap (λ (z : ℕ). sum binary32 t (n * up d * down j) true z (down d * down j))
    (ap (λ (z : ℕ). z * down d) (sym (mul-one (i * up j)) ∙ v.1) ∙ mul_right_comm k (down j) (down d))
    ∙ sum_scaled t (n * up d) true (k * down d) (down d) (down j) (down_pos d) (down_pos j)
