-- A stroke makes one entry at most for each column of the image, or for each row, and the closing one.
use Rattle.std.proofs.Common.{◌≡◌, ℕ, ◌≤◌, max, Bool, true, length, pos, ap, inl, inr, arith}
use lib.Ieee.{binary32, of_int}
use Rattle.types.specs.declared.shape.Vec2.{Vec2}
use Rattle.float.proofs.Casts.{of_int_lem}
use Rattle.rounded.proofs.Down.{both}
use Rattle.stroke.specs.declared.axis.Axis.{Axis}
use Rattle.stroke.specs.Walk.{axis_from, at, position, most_steps, exit, positions, along_x, along_y}
use Rattle.stroke.specs.Image.{on_side_of, in_sides_of, on_image}
use Rattle.stroke_check.proofs.Accepted.{Accepted}
use Rattle.stroke.proofs.Axes.{sized_x, sized_y, major}
use Rattle.stroke.proofs.Stops.{exit_le}
use Rattle.stroke.proofs.Sides.{count_le}
use Rattle.stroke_bound.specs.Bound.{most_by_sides}
use Rattle.pixels.specs.Entries.{entries, stroke_of}
use Rattle.pixels.specs.Post.{entered}
use Rattle.pixels.proofs.Lists.{entered_none, entered_more, entries_length}

module _ {p q : Vec2} (v : Accepted p q) (w h : ℕ) (wide : w ≤ 16384) (high : h ≤ 16384) where
  abbrev A : Axis
  A = along_x p q

  abbrev B : Axis
  B = along_y p q

  on_sides : (k : ℕ) → on_image w h (position A B k) ≡ true
      → (on_side_of (of_int binary32 (pos w)) (at A k) ≡ true) × (on_side_of (of_int binary32 (pos h)) (at B k) ≡ true)
  unfolding in_sides_of
  on_sides k e = both (on_side_of (of_int binary32 (pos w)) (at A k)) (on_side_of (of_int binary32 (pos h)) (at B k)) e

  entered_few : (k : ℕ) → k ≤ most_steps → length (entered w h A B k) ≤ max w h
  entered_few k t = elim (major v) [
    | inl m ↦
        let l =
        count_le (sized_x v) (unfold axis_from in v.ends.x0.fit) m w (of_int binary32 (pos w)) (of_int_lem w (omega arith))
        (λ (i : ℕ). length (entered w h A B i)) (λ (i : ℕ). on_image w h (position A B i)) (ap length (entered_none w h A B)) (entered_more w h A B)
        (λ i e. (on_sides i e).0) k t in
        omega arith
    | inr m ↦
        let l =
        count_le (sized_y v) (unfold axis_from in v.ends.y0.fit) m h (of_int binary32 (pos h)) (of_int_lem h (omega arith))
        (λ (i : ℕ). length (entered w h A B i)) (λ (i : ℕ). on_image w h (position A B i)) (ap length (entered_none w h A B)) (entered_more w h A B)
        (λ i e. (on_sides i e).1) k t in
        omega arith
  ]

  pub few_by_sides : (c : Bool) → length (stroke_of c w h p q) ≤ most_by_sides c w h
  unfolding stroke_of entries positions
  few_by_sides c = omega (arith, entered_few (exit A B) (exit_le A B), entries_length c w h A B)
