-- A search in which a NaN is refused, from axis to axis, and where the axes come in two lists.
use mathlib.Core.Path.{◌≡◌, refl, sym, ◌∙◌}
use mathlib.Core.Bool.{Bool, true, false, cond}
use mathlib.Core.List.{List, [], ◌∷◌, ◌++◌}
use Prim.Native.Nat.{ℕ, ◌+◌, ◌≤◌, ◌<◌}
use native.Mathlib.Numerals.{add-one}
use lib.ListN.{length, drop, get_or, drop_of_length-le}
use lib.Seq.{drop-cons}
use lib.Ieee.{Float}
use Rattle.std.specs.Prelude.{Result, Ok, Err}
use Rattle.types.specs.declared.shape.Range.{Range}
use Rattle.types.specs.declared.refusal.Refusal.{Refusal}
use Rattle.types.specs.declared.refusal.Refusal.TheVariants.{NanProjection}
use Rattle.axes.proofs.Ranges.{both_span, one_refused, other_refused}
use Rattle.axes.specs.Axes.{apart_of, span_of, separates, undefined_on, verdict_of}

-- a refusal is not a yes
unfoldable pub is_yes_of : Result Bool Refusal → Bool
is_yes_of (Ok b) = b
is_yes_of (Err refusal) = false

module _ {P : Type 0} (dot : P → P → Float) (ps qs : List P) where
  -- the axes from place j on decide
  pub record Passed (axes : List P) (j : ℕ) : Type 0 where
    pub left : verdict_of dot ps qs (drop j axes) ≡ verdict_of dot ps qs axes

  -- axis is the one at place j
  module _ {axes : List P} {j : ℕ} (axis : P) (is : axis ≡ get_or axes j axis) (h : j < length axes) (s : Passed axes j) where
    pub refused_here : undefined_on dot ps qs axis ≡ true → Err NanProjection ≡ verdict_of dot ps qs axes
    unfolding verdict_of
    refused_here u = rw (drop-cons axes j axis h, ← is, u) at s.left

    pub parted_here : undefined_on dot ps qs axis ≡ false → separates dot ps qs axis ≡ true → Ok false ≡ verdict_of dot ps qs axes
    unfolding verdict_of
    parted_here u t = rw (drop-cons axes j axis h, ← is, u, t) at s.left

    pub passed_here : undefined_on dot ps qs axis ≡ false → separates dot ps qs axis ≡ false → Passed axes (j + 1)
    unfolding verdict_of
    passed_here u t = record { left = rw add-one (rw (drop-cons axes j axis h, ← is, u, t) at s.left) }

  -- by the ranges on that axis
  module _ {axes : List P} {j : ℕ} {axis : P} (is : axis ≡ get_or axes j axis) (h : j < length axes) (s : Passed axes j) where
    pub first_refused : {e : Refusal} → Err e ≡ span_of dot ps axis → Err e ≡ verdict_of dot ps qs axes
    first_refused e = let r = one_refused dot ps qs axis e in rw r.0 (refused_here axis is h s r.1)

    pub second_refused : {e : Refusal} → Err e ≡ span_of dot qs axis → Err e ≡ verdict_of dot ps qs axes
    second_refused e = let r = other_refused dot ps qs axis e in rw r.0 (refused_here axis is h s r.1)

    pub spans_apart : {a b : Range} → Ok a ≡ span_of dot ps axis → Ok b ≡ span_of dot qs axis → true ≡ apart_of a b → Ok false ≡ verdict_of dot ps qs axes
    spans_apart e f t = let r = both_span dot ps qs axis e f in parted_here axis is h s r.0 (r.1 ∙ sym t)

    pub spans_meet : {a b : Range} → Ok a ≡ span_of dot ps axis → Ok b ≡ span_of dot qs axis → false ≡ apart_of a b → Passed axes (j + 1)
    spans_meet e f t = let r = both_span dot ps qs axis e f in passed_here axis is h s r.0 (r.1 ∙ sym t)

  pub passed_all : {axes : List P} {j : ℕ} → length axes ≤ j → Passed axes j → Ok true ≡ verdict_of dot ps qs axes
  unfolding verdict_of
  passed_all {axes} {j} h s = rw (drop_of_length-le axes {i = j} h) at s.left

  -- where the axes come in two lists, the second decides if the first ends nothing
  pub verdict_join :
      (xs ys : List P) →
      verdict_of dot ps qs (xs ++ ys) ≡ cond (is_yes_of (verdict_of dot ps qs xs)) (verdict_of dot ps qs ys) (verdict_of dot ps qs xs)
  unfolding verdict_of is_yes_of
  verdict_join [] ys = refl
  verdict_join (x ∷ xs) ys = go (undefined_on dot ps qs x) (separates dot ps qs x) (verdict_join xs ys)
    where
      go :
          (u t : Bool) →
          verdict_of dot ps qs (xs ++ ys) ≡ cond (is_yes_of (verdict_of dot ps qs xs)) (verdict_of dot ps qs ys) (verdict_of dot ps qs xs) →
          let v = cond u (Err NanProjection) (cond t (Ok false) (verdict_of dot ps qs xs)) in
          cond u (Err NanProjection) (cond t (Ok false) (verdict_of dot ps qs (xs ++ ys))) ≡ cond (is_yes_of v) (verdict_of dot ps qs ys) v
      go true t r = refl
      go false true r = refl
      go false false r = r
