-- Floats that are at most or at least a limit, and how the minimum and the maximum keep them so.
use mathlib.Core.Path.{◌≡◌, refl, sym, ap, ◌∙◌}
use mathlib.Core.Bool.{Bool, true, false, ◌||◌, true≢false}
use Prim.Native.Nat.{◌+◌, ◌*◌}
use native.Mathlib.Nat.{mul-one, zero-mul}
use native.Mathlib.Omega.{arith}
use borrow.Author.Tests.{ltb-false}
use lib.IntN.{pos}
use lib.Dec.{T}
use lib.Ieee.{Float, nan, inf, fin, binary32, up, down, fits, lt, is_nan, of_bits}
use lib.Ieee.Fits.{down_pos}
use lib.Ieee.Back.{whole_unique}
use Rattle.float.specs.Rounded.{+0, one}
use Rattle.float.specs.Values.{min_of, max_of}
use Rattle.float.specs.MinMax.{Picks}
use Rattle.float.proofs.Laws.{lesser_min, greater_max, lesser_number, greater_number}
use Rattle.float.proofs.MinMax.{minimum_picks, maximum_picks}
use Rattle.float.proofs.Order.{lt_not}
use Rattle.float.proofs.Sign.{no_size}
use Rattle.rounded.proofs.Round.{signed_zero}
use Rattle.rounded.proofs.Sizes.{cond_both}

-- an f32 that is no NaN
pub record Number (x : Float) : Type 0 where
  pub fit : T (fits binary32 x)
  pub number : is_nan x ≡ false

abbrev Fits : Float → Type 0
Fits x = T (fits binary32 x)

pub min_fits : (a b : Float) → T (fits binary32 a) → T (fits binary32 b) → T (fits binary32 (min_of a b))
unfolding min_of
min_fits a b f g = cond_both Fits (is_nan a || lt b a) a b f g

pub max_fits : (a b : Float) → T (fits binary32 a) → T (fits binary32 b) → T (fits binary32 (max_of a b))
unfolding max_of
max_fits a b f g = cond_both Fits (is_nan a || lt a b) a b f g

-- where the first is a number the result is one, whatever the second is
pub min_number : (a b : Float) → Number a → T (fits binary32 b) → Number (min_of a b)
min_number a b n g = record {
  fit = min_fits a b n.fit g;
  number = ap is_nan (sym (lesser_min a b n.number)) ∙ lesser_number a b n.number;
}

pub max_number : (a b : Float) → Number a → T (fits binary32 b) → Number (max_of a b)
max_number a b n g = record {
  fit = max_fits a b n.fit g;
  number = ap is_nan (sym (greater_max a b n.number)) ∙ greater_number a b n.number;
}

-- ---- not past a limit, in either order of the floats

module _ (before : Float → Float → Bool) where
  pub record NotPast (k x : Float) : Type 0 where
    pub held : Number x
    pub not_past : before k x ≡ false

  -- `pick` gives the first of two in that order: one of them that is not past the limit is enough
  module _
      (pick : Float → Float → Float) (picks : Picks before pick)
      (trans : (x y z : Float) → is_nan y ≡ false → before x y ≡ false → before y z ≡ false → before x z ≡ false)
      (k a b : Float) (n : Number (pick a b)) where
    by_first : NotPast k a → NotPast k (pick a b)
    by_first h = record { held = n; not_past = trans k a (pick a b) h.held.number h.not_past (picks.none_before a b).0 }

    by_second : NotPast k b → NotPast k (pick a b)
    by_second h = record { held = n; not_past = trans k b (pick a b) h.held.number h.not_past (picks.none_before a b).1 }

abbrev above : Float → Float → Bool
above a b = lt b a

above_not : (x y z : Float) → is_nan y ≡ false → above x y ≡ false → above y z ≡ false → above x z ≡ false
above_not x y z i h k = lt_not z y x i k h

-- x is an f32 and at most k, or at least k
abbrev pub AtMost : Float → Float → Type 0
AtMost = NotPast lt

abbrev pub AtLeast : Float → Float → Type 0
AtLeast = NotPast above

-- of two, one that is at most k is enough for the minimum, and both are for the maximum
pub min_most_first : {k a : Float} (b : Float) → AtMost k a → T (fits binary32 b) → AtMost k (min_of a b)
min_most_first {k} {a} b h g = by_first lt min_of minimum_picks lt_not k a b (min_number a b h.held g) h

pub min_most_second : {k a b : Float} → Number a → AtMost k b → AtMost k (min_of a b)
min_most_second {k} {a} {b} n h = by_second lt min_of minimum_picks lt_not k a b (min_number a b n h.held.fit) h

pub max_most : {k a b : Float} → AtMost k a → AtMost k b → AtMost k (max_of a b)
unfolding max_of
max_most {k} {a} {b} h i = cond_both (AtMost k) (is_nan a || lt a b) a b h i

-- and so the other way round
pub max_least_first : {k a : Float} (b : Float) → AtLeast k a → T (fits binary32 b) → AtLeast k (max_of a b)
max_least_first {k} {a} b h g = by_first above max_of maximum_picks above_not k a b (max_number a b h.held g) h

pub max_least_second : {k a b : Float} → Number a → AtLeast k b → AtLeast k (max_of a b)
max_least_second {k} {a} {b} n h = by_second above max_of maximum_picks above_not k a b (max_number a b n h.held.fit) h

pub min_least : {k a b : Float} → AtLeast k a → AtLeast k b → AtLeast k (min_of a b)
unfolding min_of
min_least {k} {a} {b} h i = cond_both (AtLeast k) (is_nan a || lt b a) a b h i

-- ---- what is at most k and at least k

-- 0 is a zero of either sign, and 1 is one float
pub is_zero : (x : Float) → AtMost +0 x → lt x +0 ≡ false → (s : Bool) × (x ≡ signed_zero s)
unfolding lt is_nan of_bits
is_zero nan h k = absurd (true≢false h.held.number)
is_zero (inf true) h k = absurd (true≢false k)
is_zero (inf false) h k = absurd (true≢false h.not_past)
is_zero (fin true m e) h k =
    let none : m * up e ≡ 0 = omega (arith, ltb-false 0 (m * up e * 1 + 0 * down e) k, mul-one (m * up e)) in
    let z = no_size true m e h.held.fit none in
    (true, rw (z.0, z.1))
is_zero (fin false m e) h k =
    let none : m * up e ≡ 0 = omega (arith, ltb-false (0 * down e) (m * up e * 1) h.not_past, mul-one (m * up e), zero-mul (down e)) in
    let z = no_size false m e h.held.fit none in
    (false, rw (z.0, z.1))

pub is_one : (x : Float) → AtLeast one x → lt one x ≡ false → x ≡ one
unfolding lt is_nan of_bits fits
is_one nan h k = absurd (true≢false h.held.number)
is_one (inf true) h k = absurd (true≢false h.not_past)
is_one (inf false) h k = absurd (true≢false k)
is_one (fin true m e) h k = absurd (let z : ⊥ = omega (arith, ltb-false 0 (m * up e * 1 + 1 * down e) h.not_past, down_pos e) in z)
is_one (fin false m e) h k =
    whole_unique binary32 (fin false m e) (fin false 1 (pos 0)) false 1 h.held.fit tt
    (refl, omega (arith, ltb-false (m * up e * 1) (1 * down e) h.not_past, ltb-false (1 * down e) (m * up e * 1) k)) (refl, refl)
