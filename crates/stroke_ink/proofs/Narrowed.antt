-- What a slab leaves of an interval, by where the stroke's ends lie to it: an interval from at most 0 to at least 1 stays one where both ends
-- are inside, and where both lie beyond one end of the slab what is left starts at 1 or later, or ends at 0 or earlier.
use mathlib.Core.Path.{◌≡◌, refl, sym, ◌∙◌}
use mathlib.Core.Bool.{Bool, true, false, ◌||◌, cond, true≢false}
use mathlib.Core.Logic.{◌⊎◌, inl, inr}
use Prim.Native.Nat.{ℕ, zero, suc, ◌<◌}
use native.Mathlib.Nat.{zero-lt-suc, zero-mul}
use lib.IntN.{ℤ}
use lib.Dec.{T}
use lib.Ieee.{Float, nan, inf, fin, binary32, fits, lt, ne, eq, is_nan, of_bits}
use lib.Ieee.Fits.{div-fits}
use Rattle.slabs.specs.declared.Interval.{Interval}
use Rattle.slabs.specs.declared.Interval.TheVariants.{Miss, Hit}
use Rattle.float.specs.Rounded.{◌⊖◌, +0, one}
use Rattle.float.specs.Values.{min_of, max_of}
use Rattle.slabs.specs.declared.Slab.{Slab}
use Rattle.slabs.specs.Clip.{at_low, at_high, narrowed_of}
use Rattle.rounded.specs.Size.{Size}
use Rattle.stroke_ink.proofs.Ends.{Number, AtMost, AtLeast, min_fits, max_fits, min_number, max_number, min_most_first, min_most_second, max_most, max_least_first, max_least_second, min_least}
use Rattle.stroke_ink.proofs.Quotients.{before, at_most, at_least}

-- ---- intervals

-- both ends are numbers
abbrev pub Numbers : Interval → Type 0
Numbers Miss = Unit
Numbers (Hit t u) = Number t × Number u

-- from at most 0 to at least 1
abbrev pub Spans : Interval → Type 0
Spans Miss = ⊥
Spans (Hit t u) = AtMost +0 t × AtLeast one u

-- nothing between 0 and 1
abbrev pub Outside : Interval → Type 0
Outside Miss = Unit
Outside (Hit t u) = (AtLeast one t × Number u) ⊎ (Number t × AtMost +0 u)

-- ---- a slab's two quotients, the smaller and the larger

abbrev smaller : Slab → Float
smaller s = min_of (at_low s) (at_high s)

abbrev larger : Slab → Float
larger s = max_of (at_low s) (at_high s)

low_fits : (s : Slab) → T (fits binary32 (smaller s))
low_fits s = min_fits (at_low s) (at_high s) (div-fits binary32 (s.low ⊖ s.origin) s.direction) (div-fits binary32 (s.high ⊖ s.origin) s.direction)

high_fits : (s : Slab) → T (fits binary32 (larger s))
high_fits s = max_fits (at_low s) (at_high s) (div-fits binary32 (s.low ⊖ s.origin) s.direction) (div-fits binary32 (s.high ⊖ s.origin) s.direction)

-- ---- any slab

-- what holds of the interval, of what its quotients leave and of a miss holds of what the slab leaves
narrowed_case : (P : Interval → Type 0) (s : Slab) (t u : Float) → P Miss → P (Hit t u)
    → (ne s.direction +0 ≡ true → P (Hit (max_of t (smaller s)) (min_of u (larger s))))
    → P (narrowed_of s (Hit t u))
unfolding narrowed_of
narrowed_case P s t u m h k = go (ne s.direction +0) (lt s.origin s.low || lt s.high s.origin) refl
  where
    go : (v w : Bool) → ne s.direction +0 ≡ v
        → P (cond v (Hit (max_of t (smaller s)) (min_of u (larger s))) (cond w Miss (Hit t u)))
    go true w e = k e
    go false true e = m
    go false false e = h

pub numbers_kept : (s : Slab) (i : Interval) → Numbers i → Numbers (narrowed_of s i)
unfolding narrowed_of
numbers_kept s Miss n = tt
numbers_kept s (Hit t u) n =
    narrowed_case Numbers s t u tt n λ e.
    (max_number t (smaller s) n.0 (low_fits s), min_number u (larger s) n.1 (high_fits s))

pub outside_kept : (s : Slab) (i : Interval) → Outside i → Outside (narrowed_of s i)
unfolding narrowed_of
outside_kept s Miss o = tt
outside_kept s (Hit t u) (inl o) =
    narrowed_case Outside s t u tt (inl o) λ e.
    inl (max_least_first (smaller s) o.0 (low_fits s), min_number u (larger s) o.1 (high_fits s))
outside_kept s (Hit t u) (inr o) =
    narrowed_case Outside s t u tt (inr o) λ e.
    inr (max_number t (smaller s) o.0 (low_fits s), min_most_first (larger s) o.1 (high_fits s))

-- ---- the slab of a stroke from p to q in one dimension of a box

abbrev pub slab_of : Float → Float → Float → Float → Slab
slab_of low high p q = record { low = low; high = high; origin = p; direction = q ⊖ p }

-- a finite number that is not zero
record Sloped (d : Float) : Type 0 where
  sign : Bool
  digits : ℕ
  places : ℤ
  some : 0 < digits
  value : d ≡ fin sign digits places

sloped : (l : ℕ) (d : Float) → Size l d → ne d +0 ≡ true → Sloped d
unfolding ne eq of_bits
sloped l nan h k = absurd h
sloped l (inf s) h k = absurd h
sloped l (fin true zero e) h k = absurd (true≢false (sym k ∙ simp zero-mul refl))
sloped l (fin false zero e) h k = absurd (true≢false (sym k ∙ simp zero-mul refl))
sloped l (fin s (suc n) e) h k = record { sign = s; digits = suc n; places = e; some = zero-lt-suc n; value = refl }

module _ (low high p q : Float) (k l : ℕ) (P : Size k p) (D : Size l (q ⊖ p)) (i : is_nan low ≡ false) (j : is_nan high ≡ false) where
  abbrev s : Slab
  s = slab_of low high p q

  -- both ends of the stroke are inside
  module _ (lp : lt p low ≡ false) (ph : lt high p ≡ false) (lq : lt q low ≡ false) (qh : lt high q ≡ false) where
    spanned : (t : Bool) (n : ℕ) (d : ℤ) → 0 < n → q ⊖ p ≡ fin t n d → AtMost +0 (smaller s) × AtLeast one (larger s)
    spanned false n d N e =
        let a = at_most p q low k P i false n d N e lp in
        let b = at_least p q high k P j false n d N e qh in
        (min_most_first (at_high s) a b.held.fit, max_least_second a.held b)
    spanned true n d N e =
        let a = at_least p q low k P i true n d N e lq in
        let b = at_most p q high k P j true n d N e ph in
        (min_most_second a.held b, max_least_first (at_high s) a b.held.fit)

    pub spans_kept : (i : Interval) → Spans i → Spans (narrowed_of s i)
    unfolding narrowed_of
    spans_kept Miss h = absurd h
    spans_kept (Hit t u) h = rw (lp, ph) (go (ne (q ⊖ p) +0) refl)
      where
        go : (v : Bool) → ne (q ⊖ p) +0 ≡ v → Spans (cond v (Hit (max_of t (smaller s)) (min_of u (larger s))) (Hit t u))
        go true e =
            let d = sloped l (q ⊖ p) D e in
            let z = spanned d.sign d.digits d.places d.some d.value in
            (max_most h.0 z.0, min_least h.1 z.1)
        go false e = h

  -- both lie before the slab's two ends, in the direction of the sign r
  module _ (r : Bool) (lp : before r low p ≡ false) (lq : before r low q ≡ false) (hp : before r high p ≡ false) (hq : before r high q ≡ false)
      (out : (lt p low || lt high p) ≡ true) where
    apart : (t : Bool) (n : ℕ) (d : ℤ) → 0 < n → q ⊖ p ≡ fin t n d → AtLeast one (smaller s) ⊎ AtMost +0 (larger s)
    apart t n d N e = go r t lp lq hp hq e
      where
        go :
            (r t : Bool) → before r low p ≡ false → before r low q ≡ false → before r high p ≡ false → before r high q ≡ false → q ⊖ p ≡ fin t n d →
            AtLeast one (smaller s) ⊎ AtMost +0 (larger s)
        go false false lp lq hp hq e = inl (min_least (at_least p q low k P i false n d N e lq) (at_least p q high k P j false n d N e hq))
        go true true lp lq hp hq e = inl (min_least (at_least p q low k P i true n d N e lq) (at_least p q high k P j true n d N e hq))
        go false true lp lq hp hq e = inr (max_most (at_most p q low k P i true n d N e lp) (at_most p q high k P j true n d N e hp))
        go true false lp lq hp hq e = inr (max_most (at_most p q low k P i false n d N e lp) (at_most p q high k P j false n d N e hp))

    pub outside_made : (i : Interval) → Numbers i → Outside (narrowed_of s i)
    unfolding narrowed_of
    outside_made Miss n = tt
    outside_made (Hit t u) n = rw out (go (ne (q ⊖ p) +0) refl)
      where
        left : AtLeast one (smaller s) ⊎ AtMost +0 (larger s) → Outside (Hit (max_of t (smaller s)) (min_of u (larger s)))
        left (inl h) = inl (max_least_second n.0 h, min_number u (larger s) n.1 (high_fits s))
        left (inr h) = inr (max_number t (smaller s) n.0 (low_fits s), min_most_second n.1 h)

        go : (v : Bool) → ne (q ⊖ p) +0 ≡ v → Outside (cond v (Hit (max_of t (smaller s)) (min_of u (larger s))) Miss)
        go true e =
            let d = sloped l (q ⊖ p) D e in
            left (apart d.sign d.digits d.places d.some d.value)
        go false e = tt
