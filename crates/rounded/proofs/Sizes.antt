-- Bounds on the size of a float, and how rounded sums and products keep them.
use mathlib.Core.Path.{◌≡◌, refl, ap, ◌∙◌}
use mathlib.Core.Bool.{Bool, true, false, ◌&&◌, cond, beq}
use Prim.Native.Nat.{ℕ, ◌+◌, ◌-◌, ◌*◌, ◌^◌, ◌≤◌, ◌<◌}
use native.Mathlib.Nat.{le_trans, le_of_eq, zero-mul, mul-pos, mul_comm, mul_assoc, mul-mul-mul_comm, mul-le-mul, mul-le-mul_right, add-mul}
use native.Mathlib.Omega.{arith}
use lib.Dec.{ltb}
use lib.Ieee.{Float, nan, inf, fin, binary32, unlike, up, down, round, neg, sum, add, sub, mul}
use lib.Ieee.Fits.{down_pos}
use Rattle.float.specs.Rounded.{◌⊕◌, ◌⊖◌, ◌⊗◌}
use Rattle.float.specs.Values.{abs_of}
use Rattle.rounded.proofs.Round.{Mag, round_mag}
use Rattle.rounded.specs.Size.{Size}

pub size_wider : (k l : ℕ) (x : Float) → k ≤ l → Size k x → Size l x
size_wider k l nan h u = u
size_wider k l (inf s) h u = u
size_wider k l (fin s m e) h u = let g : k * down e ≤ l * down e = mul-le-mul_right (down e) h in omega arith

size_of_mag : (s : Bool) (p q : ℕ) (x : Float) → Mag s p q x → Size q x
size_of_mag s p q nan h = h
size_of_mag s p q (inf t) h = h
size_of_mag s p q (fin t m e) h = h.2

pub round_size : (s : Bool) (a c q : ℕ) → 0 < c → a ≤ q * c → q ≤ 2 ^ 24 → Size q (round binary32 s a c)
round_size s a c q C h t = size_of_mag s 0 q (round binary32 s a c) (round_mag s a c 0 q C (omega (arith, zero-mul c)) h t)

pub neg_size : (k : ℕ) (x : Float) → Size k x → Size k (neg x)
unfolding neg
neg_size k nan h = h
neg_size k (inf s) h = h
neg_size k (fin s m e) h = h

-- what holds of both holds of either, so of a minimum and a maximum
pub cond_both : (P : Float → Type 0) (t : Bool) (x y : Float) → P x → P y → P (cond t y x)
cond_both P true x y h i = i
cond_both P false x y h i = h

pub abs_size : (k : ℕ) (x : Float) → Size k x → Size k (abs_of x)
unfolding abs_of
abs_size k nan h = h
abs_size k (inf s) h = h
abs_size k (fin s m e) h = h

-- ±A / C + ±B / C, at most a and b in size
sum_size : (s t : Bool) (A B C a b : ℕ) → 0 < C → A ≤ a * C → B ≤ b * C → a + b ≤ 2 ^ 24 → Size (a + b) (sum binary32 s A t B C)
unfolding sum
sum_size s t A B C a b P h k top = go (beq s t) (ltb A B) refl
  where
    far : A + B ≤ (a + b) * C
    far = omega (arith, add-mul a b C)

    go : (u v : Bool) → v ≡ ltb A B
        → Size (a + b) (cond u (round binary32 s (A + B) C) (cond v (round binary32 t (B - A) C) (round binary32 (s && ltb B A) (A - B) C)))
    go true v q = round_size s (A + B) C (a + b) P far top
    go false true q = round_size t (B - A) C (a + b) P (omega (arith, far)) top
    go false false q = round_size (s && ltb B A) (A - B) C (a + b) P (omega (arith, far)) top

pub add_size : (a b : ℕ) (x y : Float) → Size a x → Size b y → a + b ≤ 2 ^ 24 → Size (a + b) (x ⊕ y)
unfolding add
add_size a b nan y h k t = absurd h
add_size a b (inf s) y h k t = absurd h
add_size a b (fin s m e) nan h k t = absurd k
add_size a b (fin s m e) (inf u) h k t = absurd k
add_size a b (fin s m e) (fin u n d) h k t =
    sum_size s u (m * up e * down d) (n * up d * down e) (down e * down d) a b (mul-pos (down_pos e) (down_pos d))
    (le_trans (mul-le-mul_right (down d) h) (le_of_eq (mul_assoc a (down e) (down d))))
    (le_trans (mul-le-mul_right (down e) k) (le_of_eq (mul_assoc b (down d) (down e) ∙ ap (λ (z : ℕ). b * z) (mul_comm (down d) (down e)))))
    t

pub sub_size : (a b : ℕ) (x y : Float) → Size a x → Size b y → a + b ≤ 2 ^ 24 → Size (a + b) (x ⊖ y)
unfolding sub
sub_size a b x y h k t = add_size a b x (neg y) h (neg_size b y k) t

pub mul_size : (a b : ℕ) (x y : Float) → Size a x → Size b y → a * b ≤ 2 ^ 24 → Size (a * b) (x ⊗ y)
unfolding mul
mul_size a b nan y h k t = absurd h
mul_size a b (inf s) y h k t = absurd h
mul_size a b (fin s m e) nan h k t = absurd k
mul_size a b (fin s m e) (inf u) h k t = absurd k
mul_size a b (fin s m e) (fin u n d) h k t =
    round_size (unlike s u) (m * up e * (n * up d)) (down e * down d) (a * b) (mul-pos (down_pos e) (down_pos d))
    (le_trans (mul-le-mul h k) (le_of_eq (mul-mul-mul_comm a (down e) b (down d)))) t
