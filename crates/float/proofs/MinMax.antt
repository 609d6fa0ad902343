-- The minimum and the maximum are what specs/MinMax.antt says.
use mathlib.Core.Path.{◌≡◌, refl, sym, ◌∙◌}
use mathlib.Core.Bool.{Bool, true, false, cond, ◌||◌, true≢false}
use mathlib.Core.Logic.{◌⊎◌, inl, inr}
use lib.IntN.{pos}
use lib.Ieee.{Float, nan, inf, fin, lt, is_nan}
use Rattle.float.specs.Values.{min_of, max_of}
use Rattle.float.specs.MinMax.{Picks, MinimumPicks, MaximumPicks}
use Rattle.float.proofs.Laws.{above_number, below_number}
use Rattle.float.proofs.Order.{lt_itself, lt_one_way}

-- what the order of the floats has, read in either direction
record Ordered (before : Float → Float → Bool) : Type 0 where
  itself : (a : Float) → before a a ≡ false
  one_way : (a b : Float) → before a b ≡ true → before b a ≡ false
  number : (a b : Float) → before a b ≡ true → is_nan a ≡ false
  zeros : (s t : Bool) → before (fin s 0 (pos 0)) (fin t 0 (pos 0)) ≡ false

module _ (before : Float → Float → Bool) (o : Ordered before) where
  abbrev pick : Float → Float → Float
  pick a b = cond (is_nan a || before b a) b a

  -- a NaN is before nothing
  nan_not : (a b : Float) → is_nan a ≡ true → before a b ≡ false
  nan_not a b h = go (before a b) refl
    where
      go : (t : Bool) → before a b ≡ t → t ≡ false
      go true k = absurd (true≢false (sym h ∙ o.number a b k))
      go false k = refl

  one_of : (a b : Float) → (pick a b ≡ a) ⊎ (pick a b ≡ b)
  one_of a b = go (is_nan a || before b a)
    where
      go : (t : Bool) → (cond t b a ≡ a) ⊎ (cond t b a ≡ b)
      go true = inr refl
      go false = inl refl

  none_before : (a b : Float) → (before a (pick a b) ≡ false) × (before b (pick a b) ≡ false)
  none_before a b = go (is_nan a) (before b a) refl refl
    where
      go : (n t : Bool) → is_nan a ≡ n → before b a ≡ t
          → (before a (cond (n || t) b a) ≡ false) × (before b (cond (n || t) b a) ≡ false)
      go true t h k = (nan_not a b h, o.itself b)
      go false true h k = (o.one_way b a k, o.itself b)
      go false false h k = (o.itself a, k)

  drops_nan : (a : Float) → (pick nan a ≡ a) × (pick a nan ≡ a)
  unfolding is_nan
  drops_nan a = (refl, rw (nan_not nan a refl) (second a))
    where
      second : (a : Float) → cond (is_nan a || false) nan a ≡ a
      second nan = refl
      second (inf s) = refl
      second (fin s m e) = refl

  first_zero : (s t : Bool) → pick (fin s 0 (pos 0)) (fin t 0 (pos 0)) ≡ fin s 0 (pos 0)
  unfolding is_nan
  first_zero s t = rw (o.zeros t s)

  picks : Picks before pick
  picks = record { one_of = one_of; none_before = none_before; drops_nan = drops_nan; first_zero = first_zero }

zeros : (s t : Bool) → lt (fin s 0 (pos 0)) (fin t 0 (pos 0)) ≡ false
unfolding lt
zeros true true = refl
zeros true false = refl
zeros false true = refl
zeros false false = refl

pub minimum_picks : MinimumPicks
unfolding min_of
minimum_picks = picks lt record { itself = lt_itself; one_way = lt_one_way; number = below_number; zeros = zeros }

pub maximum_picks : MaximumPicks
unfolding max_of
maximum_picks = picks (λ a b. lt b a) record {
  itself = lt_itself;
  one_way = λ a b. lt_one_way b a;
  number = λ a b. above_number b a;
  zeros = λ s t. zeros t s;
}
