-- Two ranges lie apart exactly if the intervals that specs/Disjoint.antt speaks of are disjoint; so an axis separates two boxes exactly if their
-- projections on it are.
use mathlib.Core.Path.{◌≡◌, refl, sym, ap, ◌∙◌}
use mathlib.Core.Logic.{inl, inr, ◌↔◌}
use mathlib.Core.Bool.{Bool, true, false, not, true≢false}
use mathlib.Core.List.Memᴰ
use mathlib.Core.List.{List, [], ◌∷◌, Memᴰ}
use lib.Ieee.{Float, lt, is_nan}
use borrow.Author.Tests.{not-false}
use Rattle.std.specs.List.{list_any}
use Rattle.axes.specs.Axes.{range_of, apart_of, projections, separates, meets}
use Rattle.axes.specs.Disjoint.{+∞, -∞, NumberOf, NumberOfOr, Below, NumbersDecide, SeparatesIfDisjoint, SeparatingAxis, FoldedRanges}
use Rattle.axes.proofs.Ends.{range_ends, one_range}
use Rattle.float.proofs.Order.{lt_itself, lt_not, none_lower, none_higher}
use Rattle.float.proofs.Tests.{either, or_true}

-- ---- disjoint intervals

a_number : {xs : List Float} {e x : Float} → is_nan e ≡ false → NumberOfOr xs e x → is_nan x ≡ false
a_number h (inl e) = rw e h
a_number h (inr n) = n.number

-- a is at most x, and y at most b
lt_wider : (x a b y : Float) → is_nan a ≡ false → is_nan b ≡ false → lt x a ≡ false → lt b y ≡ false → lt x y ≡ true → lt a b ≡ true
lt_wider x a b y i j h k l = go (lt a b) refl
  where
    go : (t : Bool) → lt a b ≡ t → t ≡ true
    go true e = refl
    go false e = absurd (true≢false (sym l ∙ lt_not x a y i h (lt_not a b y j e k)))

ranges_below : (xs ys : List Float) → (lt (range_of xs).high (range_of ys).low ≡ true) ↔ Below xs ys
unfolding is_nan
ranges_below xs ys =
    let g = (range_ends xs).1 in
    let l = (range_ends ys).0 in (
      λ h x y m n. lt_wider (range_of xs).high x y (range_of ys).low (a_number refl m) (a_number refl n) (g.none_above x m) (l.none_below y n) h,
      λ b. b (range_of xs).high (range_of ys).low g.one_of l.one_of,
    )

pub numbers_decide : NumbersDecide
unfolding lt is_nan
numbers_decide xs ys a b m n = (λ h x y p q. h x y (inr p) (inr q), decided)
  where
    decided : ((x y : Float) → NumberOf xs x → NumberOf ys y → lt x y ≡ true) → Below xs ys
    decided h x y (inl d) (inl e) = rw (d, e) refl
    decided h x y (inl d) (inr q) = rw d (lt_wider a -∞ y y refl q.number (none_lower a) (lt_itself y) (h a y m q))
    decided h x y (inr p) (inl e) = rw e (lt_wider x x +∞ b p.number refl (lt_itself x) (none_higher b) (h x b p n))
    decided h x y (inr p) (inr q) = h x y p q

-- ---- boxes

module _ {A : Type 0} (f : A → Bool) where
  pub some_is : (xs : List A) → list_any f xs ≡ true → (x : A) × Memᴰ x xs × (f x ≡ true)
  some_is [] h = absurd (true≢false (sym h))
  some_is (x ∷ xs) h = elim (either (f x) (list_any f xs) h) [
    | inl e ↦ (x, Memᴰ.head refl, e)
    | inr k ↦ let r = some_is xs k in (r.0, Memᴰ.tail r.1, r.2)
  ]

  pub is_some : (xs : List A) (x : A) → Memᴰ x xs → f x ≡ true → list_any f xs ≡ true
  is_some [] x m h = absurd (Memᴰ.not-nil m)
  is_some (y ∷ xs) x m h = elim (Memᴰ.cases_cons m) [
    | inl e ↦ or_true (f y) (list_any f xs) (inl (rw (← e) h))
    | inr k ↦ or_true (f y) (list_any f xs) (inr (is_some xs x k h))
  ]

module _ {P : Type 0} (dot : P → P → Float) where
  pub separates_if_disjoint : SeparatesIfDisjoint dot
  unfolding separates apart_of
  separates_if_disjoint ps qs axis =
      let xs = projections dot ps axis in
      let ys = projections dot qs axis in
      let t = lt (range_of xs).high (range_of ys).low in
      let u = lt (range_of ys).high (range_of xs).low in (
        λ h. elim (either t u h) [ inl e ↦ inl ((ranges_below xs ys).0 e) | inr e ↦ inr ((ranges_below ys xs).0 e) ],
        λ d. or_true t u (elim d [ inl b ↦ inl ((ranges_below xs ys).1 b) | inr b ↦ inr ((ranges_below ys xs).1 b) ]),
      )

  -- the answer is no exactly if one of the axes separates the boxes
  pub meets_no : (ps qs axes : List P) → (meets dot ps qs axes ≡ false) ↔ SeparatingAxis dot ps qs axes
  unfolding meets
  meets_no ps qs axes = (
    λ h. let r = some_is (separates dot ps qs) axes (not-false _ h) in (r.0, r.1, (separates_if_disjoint ps qs r.0).0 r.2),
    λ r. ap not (is_some (separates dot ps qs) axes r.0 r.1 ((separates_if_disjoint ps qs r.0).1 r.2)),
  )

  pub folded_ranges : FoldedRanges dot
  folded_ranges = record { ends = range_ends; one = one_range; numbers = numbers_decide; separates = separates_if_disjoint }
