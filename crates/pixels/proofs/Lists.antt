-- The entries of a walk's first positions, and how one position more adds to them.
use Rattle.std.proofs.Common.{◌≡◌, ℕ, zero, suc, ◌+◌, ◌≤◌, Bool, true, false, List, [], ◌∷◌, ◌++◌, map, length, sym, refl, ap, ◌∙◌, subst, arith, length-append}
use mathlib.Core.List.{map-append}
use Rattle.types.specs.declared.shape.Vec2.{Vec2}
use Rattle.lists.specs.Places.{upto}
use Rattle.stroke.specs.declared.axis.Axis.{Axis}
use Rattle.stroke.specs.Walk.{position, exit, positions}
use Rattle.stroke.specs.Image.{on_image, one_if_of}
use Rattle.pixels.specs.Entries.{number, keep_if, kept, pixels, entries}
use Rattle.pixels.specs.Post.{entered}

-- ---- one position more

kept_append : {A : Type 0} (t : A → Bool) (l k : List A) → kept t (l ++ k) ≡ kept t l ++ kept t k
unfolding kept
kept_append t [] k = refl
kept_append {A} t (x ∷ l) k = go (t x) (kept_append t l k)
  where
    go : (u : Bool) → kept t (l ++ k) ≡ kept t l ++ kept t k → keep_if u x (kept t (l ++ k)) ≡ keep_if u x (kept t l) ++ kept t k
    go true e = ap (λ (z : List A). x ∷ z) e
    go false e = e

pixels_append : (w h : ℕ) (ps qs : List Vec2) → pixels w h (ps ++ qs) ≡ pixels w h ps ++ pixels w h qs
unfolding pixels
pixels_append w h ps qs = ap (map (number w)) (kept_append (on_image w h) ps qs) ∙ map-append (number w) (kept (on_image w h) ps) (kept (on_image w h) qs)

pixels_one : (w h : ℕ) (p : Vec2) → pixels w h (p ∷ []) ≡ keep_if (on_image w h p) (number w p) []
unfolding pixels kept
pixels_one w h p = go (on_image w h p)
  where
    go : (t : Bool) → map (number w) (keep_if t p []) ≡ keep_if t (number w p) []
    go true = refl
    go false = refl

pub entered_none : (w h : ℕ) (a b : Axis) → entered w h a b 0 ≡ []
unfolding pixels upto kept
entered_none w h a b = refl

pub entered_suc : (w h : ℕ) (a b : Axis) (k : ℕ)
    → entered w h a b (suc k) ≡ entered w h a b k ++ keep_if (on_image w h (position a b k)) (number w (position a b k)) []
unfolding upto
entered_suc w h a b k =
    pixels_append w h (upto (position a b) k) (position a b k ∷ [])
    ∙ ap (λ (z : List ℕ). entered w h a b k ++ z) (pixels_one w h (position a b k))

-- ---- how many there are

pub no_entries : (es : List ℕ) → 0 ≡ length es → es ≡ []
no_entries [] e = refl
no_entries (x ∷ es) e = absurd (let z : ⊥ = omega arith in z)

pub one_le : (t : Bool) → one_if_of t ≤ 1
one_le true = omega arith
one_le false = omega arith

pub keep_length : (t : Bool) (x : ℕ) → length (keep_if t x []) ≡ one_if_of t
keep_length true x = refl
keep_length false x = refl

pub entered_more : (w h : ℕ) (a b : Axis) (k : ℕ) → length (entered w h a b (suc k)) ≡ length (entered w h a b k) + one_if_of (on_image w h (position a b k))
entered_more w h a b k =
    ap length (entered_suc w h a b k) ∙ length-append (entered w h a b k) (keep_if (on_image w h (position a b k)) (number w (position a b k)) [])
    ∙ ap (λ (i : ℕ). length (entered w h a b k) + i) (keep_length (on_image w h (position a b k)) (number w (position a b k)))

-- no fewer for more positions
pub entered_le : (w h : ℕ) (a b : Axis) (k d : ℕ) → length (entered w h a b k) ≤ length (entered w h a b (k + d))
entered_le w h a b k zero = let e : k + 0 ≡ k = omega arith in subst (λ (i : ℕ). length (entered w h a b k) ≤ length (entered w h a b i)) (sym e) (omega arith)
entered_le w h a b k (suc d) =
    let e : k + suc d ≡ suc (k + d) = omega arith in
    subst (λ (i : ℕ). length (entered w h a b k) ≤ length (entered w h a b i)) (sym e)
    (omega (arith, entered_le w h a b k d, entered_more w h a b (k + d)))

-- no more than positions
pub entered_few : (w h : ℕ) (a b : Axis) (k : ℕ) → length (entered w h a b k) ≤ k
entered_few w h a b zero = omega (arith, ap length (entered_none w h a b))
entered_few w h a b (suc k) = omega (arith, entered_few w h a b k, entered_more w h a b k, one_le (on_image w h (position a b k)))

-- all of them, with the closing one
pub entries_length : (c : Bool) (w h : ℕ) (a b : Axis) → length (entries c w h a b) ≡ length (entered w h a b (exit a b)) + one_if_of c
unfolding entries positions
entries_length c w h a b =
    length-append (entered w h a b (exit a b)) (keep_if c (number w (position a b (exit a b))) [])
    ∙ ap (λ (i : ℕ). length (entered w h a b (exit a b)) + i) (keep_length c (number w (position a b (exit a b))))
