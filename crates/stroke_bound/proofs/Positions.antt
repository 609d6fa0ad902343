-- A walk has at most D + 2 positions, D being the exact larger difference of its ends, rounded up to a whole number. After k steps it is at least k
-- past the whole part of its start, and the range ends at most D + 1 and a half past it.
use mathlib.Core.Path.{◌≡◌, sym, ◌∙◌}
use mathlib.Core.Bool.{Bool, true, false, ◌||◌, true≢false}
use mathlib.Core.Logic.{inl, inr}
use Prim.Native.Nat.{ℕ, zero, suc, ◌+◌, ◌*◌, ◌^◌, ◌≤◌, ◌<◌, max}
use native.Mathlib.Nat.{le_trans}
use native.Mathlib.Decide.{dec_le}
use native.Mathlib.Omega.{arith}
use lib.Pow.{pow_pos}
use lib.Dec.{T}
use lib.Ieee.{Float, nan, inf, fin, neg, lt, is_nan}
use lib.Ieee.Scale.{finite}
use Rattle.types.specs.declared.shape.Vec2.{Vec2}
use Rattle.float.specs.Values.{min_of, max_of}
use Rattle.rounded.specs.Size.{Size}
use Rattle.rounded.proofs.Sizes.{neg_size, cond_both}
use Rattle.rounded.proofs.Step.{Past, past_less, past_of_size, under_of_size, past_under, directed}
use Rattle.rounded.proofs.Down.{both}
use Rattle.rounded.proofs.Halves.{Half, half_wider, past_half, high_half, low_half, whole_part_of, past_whole, half_whole}
use Rattle.stroke.specs.Walk.{step_of, axis_from, at, within, in_ranges_of, goes_on, most_steps, exit, along_x, along_y}
use Rattle.stroke.specs.Steps.{Sized}
use Rattle.stroke.proofs.Outside.{Major, past_from, reach, within_reach, directed_size}
use Rattle.stroke_check.proofs.Accepted.{Coordinate, Accepted}
use Rattle.stroke.proofs.Axes.{sized_x, sized_y, major, stroke_stops}
use Rattle.stroke_bound.specs.Bound.{difference_of, larger_difference_of}
use Rattle.stroke_bound.proofs.UpTo.{up_to_over}
use Rattle.stroke_bound.proofs.Far.{Far, far_of, far_neg, far_none, far_half}

finite_of : (k : ℕ) (x : Float) → Size k x → T (finite x)
finite_of k nan h = h
finite_of k (inf s) h = h
finite_of k (fin s m e) h = tt

-- ---- along one axis

past_none : (x : Float) → Size 65536 x → Past 0 x
past_none x s = past_less 0 65536 x (omega arith) (past_of_size 65536 x (omega arith) s)

whole_top : (x : Float) → Size 65536 x → whole_part_of x ≤ 196608
whole_top x s = omega (arith, past_under (whole_part_of x) 65536 x (past_whole x (past_none x s)) (under_of_size 65536 x s))

-- the whole part of x, one, and D: in halves
abbrev halves : ℕ → Float → ℕ
halves D x = (whole_part_of x + 1) * 2 + D * 2

-- x and y are at most that, so both ends of the range are
module _ (D : ℕ) (x y : Float) (s : Size 65536 x) (f : Far D x y) where
  first_end : Half (halves D x) x
  first_end = half_wider ((whole_part_of x + 1) * 2) (halves D x) x (omega arith) (half_whole x (past_none x s))

  second_end : Half (halves D x) y
  second_end = far_half D ((whole_part_of x + 1) * 2) x y f (half_whole x (past_none x s))

module _ (st p q : Float) (D : ℕ) (hp : Size 65536 p) (hq : Size 65536 q) (f : Far D p q) (small : D ≤ most_steps) where
  -- so the widened range ends at most a half after that
  reach_half : (s : Bool) → Half (suc (halves D (directed s p))) (reach s (axis_from st p q))
  unfolding axis_from min_of max_of
  reach_half false =
      let b = is_nan p || lt p q in
      high_half (max_of p q) (halves D p) (cond_both (Size 65536) b p q hp hq) (omega (arith, whole_top p hp))
      (cond_both (Half (halves D p)) b p q (first_end D p q hp f) (second_end D p q hp f))
  reach_half true =
      let b = is_nan p || lt q p in
      let np = neg_size 65536 p hp in
      let nf = far_neg D p q f in
      low_half (min_of p q) (halves D (neg p)) (cond_both (Size 65536) b p q hp hq) (omega (arith, whole_top (neg p) np))
      (cond_both (λ (x : Float). Half (halves D (neg p)) (neg x)) b p q
      (first_end D (neg p) (neg q) np nf) (second_end D (neg p) (neg q) np nf))

  few_within :
      Sized (axis_from st p q) → Major (axis_from st p q) → (k : ℕ) → k ≤ most_steps → within (axis_from st p q) (at (axis_from st p q) k) ≡ true → k ≤ D + 1
  few_within z m k h t =
      let a = axis_from st p q in
      let s = m.0 in
      let W = whole_part_of (directed s p) in
      let r = past_from z m W (unfold axis_from in (past_whole (directed s p) (past_none (directed s p) (directed_size s 65536 p hp)))) k h in
      let w = within_reach a s (at a k) t in
      omega (arith, past_half (W + k) (suc (halves D (directed s p))) (directed s (at a k)) (reach s a) r w (reach_half s))

-- ---- where the walk leaves

module _ {p q : Vec2} (w : Accepted p q) (D : ℕ) (fx : Far D p.x q.x) (fy : Far D p.y q.y) where
  some : 1 ≤ D
  some = go D fx fy
    where
      go : (d : ℕ) → Far d p.x q.x → Far d p.y q.y → 1 ≤ d
      go zero f g = absurd (elim w.differ [
        | inl h ↦ true≢false (sym (far_none p.x q.x f) ∙ h)
        | inr h ↦ true≢false (sym (far_none p.y q.y g) ∙ h)
      ])
      go (suc d) f g = omega arith

  goes_few : (k : ℕ) → k ≤ most_steps → D ≤ most_steps → goes_on (along_x p q) (along_y p q) k ≡ true → k ≤ D + 1
  unfolding in_ranges_of
  goes_few k h l t =
      let b = both (within (along_x p q) (at (along_x p q) k)) (within (along_y p q) (at (along_y p q) k)) t in
      elim (major w) [
        | inl m ↦ few_within (step_of p q) p.x q.x D w.ends.x0.size w.ends.x1.size fx l (sized_x w) m k h b.0
        | inr m ↦ few_within (step_of p q) p.y q.y D w.ends.y0.size w.ends.y1.size fy l (sized_y w) m k h b.1
      ]

  exit_few : exit (along_x p q) (along_y p q) ≤ D + 2
  exit_few = elim (dec_le D most_steps) [
    | yes y ↦ go (exit (along_x p q) (along_y p q)) (stroke_stops w).few (stroke_stops w).on y
    | no n ↦ omega (arith, (stroke_stops w).few)
  ]
    where
      go : (j : ℕ) → j ≤ most_steps → ((k : ℕ) → k < j → goes_on (along_x p q) (along_y p q) k ≡ true) → D ≤ most_steps → j ≤ D + 2
      go zero h l y = omega arith
      go (suc j) h l y = omega (arith, goes_few j (omega arith) y (l j (omega arith)))

-- ---- of the ends

far_ends : (D : ℕ) {x y : Float} → Coordinate x → Coordinate y → (n : ℕ) → difference_of x y ≤ n → n ≤ D * 2 ^ 149 → Far D x y
far_ends D {x} {y} a b n h l = far_of D x y a.fit b.fit (finite_of 65536 x a.size) (finite_of 65536 y b.size) (le_trans h l)

module _ {p q : Vec2} (w : Accepted p q) where
  abbrev larger : ℕ
  larger = max (difference_of p.x q.x) (difference_of p.y q.y)

  far_x : Far (larger_difference_of p q) p.x q.x
  unfolding larger_difference_of
  far_x = far_ends (larger_difference_of p q) w.ends.x0 w.ends.x1 larger (omega arith) (up_to_over (2 ^ 149) larger (pow_pos 149))

  far_y : Far (larger_difference_of p q) p.y q.y
  unfolding larger_difference_of
  far_y = far_ends (larger_difference_of p q) w.ends.y0 w.ends.y1 larger (omega arith) (up_to_over (2 ^ 149) larger (pow_pos 149))

  pub exit_bound : exit (along_x p q) (along_y p q) ≤ larger_difference_of p q + 2
  exit_bound = exit_few w (larger_difference_of p q) far_x far_y

  -- the ends of an accepted stroke are two points
  pub larger_some : 1 ≤ larger_difference_of p q
  larger_some = some w (larger_difference_of p q) far_x far_y
