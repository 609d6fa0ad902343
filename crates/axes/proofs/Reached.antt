-- The answer of a search in which a NaN is refused means what specs/Reached.antt says: it ends at the first axis that is not passed, and
-- each of its answers has one cause.
use mathlib.Core.Path.{◌≡◌, refl, sym, ap, ◌∙◌}
use mathlib.Core.Logic.{◌⊎◌, inl, inr}
use mathlib.Core.Bool.{Bool, true, false, true≢false}
use mathlib.Core.List.Memᴰ
use mathlib.Core.List.{List, [], ◌∷◌, ◌++◌, Memᴰ}
use Prim.Native.Nat.{ℕ}
use native.Mathlib.Omega.{arith}
use lib.Ieee.{Float, is_nan}
use Rattle.std.specs.Prelude.{Result, Ok, Err}
use Rattle.types.specs.declared.refusal.Refusal.{Refusal}
use Rattle.types.specs.declared.refusal.Refusal.TheVariants.{NanProjection}
use Rattle.float.proofs.Tests.{neither, either}
use Rattle.std.specs.List.{list_any}
use Rattle.std.proofs.lemmas.Bool.{false_from_ne_true, true_from_ne_false}
use Rattle.axes.specs.Axes.{projections, separates, undefined_on, verdict_of}
use Rattle.axes.specs.Reached.{Numbers, Defined, Separated, Passed, Reached, VerdictPromise}
use Rattle.axes.proofs.Decided.{is_yes_of, verdict_join}
use Rattle.axes.proofs.Disjoint.{some_is, is_some, separates_if_disjoint}

-- ---- numbers

numbers : (xs : List Float) → list_any is_nan xs ≡ false → Numbers xs
numbers xs h x m = false_from_ne_true (is_nan x) (λ e. true≢false (sym (is_some is_nan xs x m e) ∙ h))

no_numbers : (xs : List Float) → list_any is_nan xs ≡ true → Numbers xs → ⊥
no_numbers xs h n = let r = some_is is_nan xs h in true≢false (sym r.2 ∙ n r.0 r.1)

module _ {P : Type 0} (dot : P → P → Float) (ps qs : List P) where
  -- ---- an axis

  defined : (axis : P) → undefined_on dot ps qs axis ≡ false → Defined dot ps qs axis
  unfolding undefined_on
  defined axis h = let r = neither _ _ h in (numbers _ r.0, numbers _ r.1)

  not_defined : (axis : P) → undefined_on dot ps qs axis ≡ true → Defined dot ps qs axis → ⊥
  unfolding undefined_on
  not_defined axis h d =
      let xs = projections dot ps axis in
      let ys = projections dot qs axis in
      elim (either (list_any is_nan xs) (list_any is_nan ys) h) [ inl e ↦ no_numbers xs e d.0 | inr e ↦ no_numbers ys e d.1 ]

  all_numbers : (axis : P) → Defined dot ps qs axis → undefined_on dot ps qs axis ≡ false
  all_numbers axis d = false_from_ne_true (undefined_on dot ps qs axis) (λ e. not_defined axis e d)

  -- both tests fail on an axis that is passed, and only there
  passed_tests : (axis : P) → Passed dot ps qs axis → (undefined_on dot ps qs axis ≡ false) × (separates dot ps qs axis ≡ false)
  passed_tests axis p =
      (all_numbers axis p.0, false_from_ne_true (separates dot ps qs axis) (λ e. p.1 ((separates_if_disjoint dot ps qs axis).0 e)))

  tests_passed : (axis : P) → undefined_on dot ps qs axis ≡ false → separates dot ps qs axis ≡ false → Passed dot ps qs axis
  tests_passed axis u t = (defined axis u, λ d. true≢false (sym ((separates_if_disjoint dot ps qs axis).1 d) ∙ t))

  -- ---- the causes

  abbrev AllPassed : List P → Type 0
  AllPassed axes = (axis : P) → Memᴰ axis axes → Passed dot ps qs axis

  abbrev Parted : List P → Type 0
  Parted axes = (axis : P) × Reached dot ps qs axes axis × Defined dot ps qs axis × Separated dot ps qs axis

  abbrev Undefined : List P → Type 0
  Undefined axes = (axis : P) × Reached dot ps qs axes axis × (Defined dot ps qs axis → ⊥)

  all_yes : (axes : List P) → AllPassed axes → verdict_of dot ps qs axes ≡ Ok true
  unfolding verdict_of
  all_yes [] all = refl
  all_yes (x ∷ axes) all =
      let t = passed_tests x (all x (Memᴰ.head refl)) in
      rw (t.0, t.1) (all_yes axes (λ a m. all a (Memᴰ.tail m)))

  -- axes that are passed may stand before the others, and change nothing
  skipped : (before rest : List P) → AllPassed before → verdict_of dot ps qs (before ++ rest) ≡ verdict_of dot ps qs rest
  unfolding is_yes_of
  skipped before rest all = rw (all_yes before all) at (verdict_join dot ps qs before rest)

  parted_no : (axes : List P) → Parted axes → verdict_of dot ps qs axes ≡ Ok false
  unfolding verdict_of
  parted_no axes (axis, r, d, p) =
      rw (r.stands, skipped r.before (axis ∷ r.after) r.passed, all_numbers axis d, (separates_if_disjoint dot ps qs axis).1 p)

  undefined_refused : (axes : List P) → Undefined axes → verdict_of dot ps qs axes ≡ Err NanProjection
  unfolding verdict_of
  undefined_refused axes (axis, r, d) =
      rw (
        r.stands,
        skipped r.before (axis ∷ r.after) r.passed,
        true_from_ne_false (undefined_on dot ps qs axis) (λ e. d (defined axis e)),
      )

  -- ---- one of them holds

  here : (x : P) (axes : List P) → Reached dot ps qs (x ∷ axes) x
  here x axes = record { before = []; after = axes; stands = refl; passed = λ a m. absurd (Memᴰ.not-nil m) }

  further : (x : P) (axes : List P) (axis : P) → Passed dot ps qs x → Reached dot ps qs axes axis → Reached dot ps qs (x ∷ axes) axis
  further x axes axis p r =
      record {
        before = x ∷ r.before;
        after = r.after;
        stands = ap (λ ys. x ∷ ys) r.stands;
        passed = λ a m. elim (Memᴰ.cases_cons m) [ inl e ↦ rw e p | inr k ↦ r.passed a k ];
      }

  cause : (axes : List P) → AllPassed axes ⊎ (Parted axes ⊎ Undefined axes)
  cause [] = inl (λ a m. absurd (Memᴰ.not-nil m))
  cause (x ∷ axes) = go (undefined_on dot ps qs x) refl (separates dot ps qs x) refl (cause axes)
    where
      go :
          (u : Bool) →
          undefined_on dot ps qs x ≡ u →
          (t : Bool) →
          separates dot ps qs x ≡ t →
          AllPassed axes ⊎ (Parted axes ⊎ Undefined axes) →
          AllPassed (x ∷ axes) ⊎ (Parted (x ∷ axes) ⊎ Undefined (x ∷ axes))
      go true u t e c = inr (inr (x, here x axes, not_defined x u))
      go false u true e c = inr (inl (x, here x axes, defined x u, (separates_if_disjoint dot ps qs x).0 e))
      go false u false e (inl all) =
          inl (λ a m. elim (Memᴰ.cases_cons m) [ inl q ↦ rw q (tests_passed x u e) | inr k ↦ all a k ])
      go false u false e (inr (inl (a, r, d, p))) = inr (inl (a, further x axes a (tests_passed x u e) r, d, p))
      go false u false e (inr (inr (a, r, d))) = inr (inr (a, further x axes a (tests_passed x u e) r, d))

  -- ---- the promise

  abbrev kind : Result Bool Refusal → ℕ
  kind (Ok true) = 0
  kind (Ok false) = 1
  kind (Err refusal) = 2

  pub verdict_means : (axes : List P) (r : Result Bool Refusal) → r ≡ verdict_of dot ps qs axes → VerdictPromise dot ps qs axes r
  verdict_means axes r e =
      record {
        yes = (λ y. told_yes (cause axes) (ap kind (sym y ∙ e)), λ all. e ∙ all_yes axes all);
        no = (λ y. told_no (cause axes) (ap kind (sym y ∙ e)), λ p. e ∙ parted_no axes p);
        refused = (λ y. told_refused (cause axes) (ap kind (sym y ∙ e)), λ u. e ∙ undefined_refused axes u);
      }
    where
      told_yes : AllPassed axes ⊎ (Parted axes ⊎ Undefined axes) → 0 ≡ kind (verdict_of dot ps qs axes) → AllPassed axes
      told_yes (inl all) k = all
      told_yes (inr (inl p)) k = absurd (omega (arith, k ∙ ap kind (parted_no axes p)))
      told_yes (inr (inr u)) k = absurd (omega (arith, k ∙ ap kind (undefined_refused axes u)))

      told_no : AllPassed axes ⊎ (Parted axes ⊎ Undefined axes) → 1 ≡ kind (verdict_of dot ps qs axes) → Parted axes
      told_no (inl all) k = absurd (omega (arith, k ∙ ap kind (all_yes axes all)))
      told_no (inr (inl p)) k = p
      told_no (inr (inr u)) k = absurd (omega (arith, k ∙ ap kind (undefined_refused axes u)))

      told_refused : AllPassed axes ⊎ (Parted axes ⊎ Undefined axes) → 2 ≡ kind (verdict_of dot ps qs axes) → Undefined axes
      told_refused (inl all) k = absurd (omega (arith, k ∙ ap kind (all_yes axes all)))
      told_refused (inr (inl p)) k = absurd (omega (arith, k ∙ ap kind (parted_no axes p)))
      told_refused (inr (inr u)) k = u
