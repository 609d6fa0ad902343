-- The two axes of an accepted stroke, and that its walk leaves the ranges of its ends by itself.
use mathlib.Core.Path.{◌≡◌}
use mathlib.Core.Bool.{false, ◌||◌}
use mathlib.Core.Logic.{◌⊎◌, inl, inr}
use lib.Dec.{lit≤}
use lib.Ieee.{Float, lt, eq, is_nan, of_bits}
use Rattle.types.specs.declared.shape.Vec2.{Vec2}
use Rattle.float.specs.Rounded.{◌⊖◌, ◌⊘◌, epsilon}
use Rattle.float.specs.Values.{abs_of, min_of, max_of}
use Rattle.rounded.specs.Size.{Size}
use Rattle.rounded.proofs.Sizes.{cond_both, abs_size, add_size, sub_size}
use Rattle.rounded.proofs.Apart.{NonZero, apart}
use Rattle.rounded.proofs.Slopes.{Slopes, slopes}
use Rattle.stroke_check.proofs.Accepted.{Coordinate, Accepted, difference_size}
use Rattle.stroke.specs.Walk.{step_of, axis_from, along_x, along_y}
use Rattle.stroke.specs.Stops.{Stops}
use Rattle.stroke.specs.Steps.{Sized}
use Rattle.stroke.proofs.Outside.{Major, outside}
use Rattle.stroke.proofs.Stops.{stops}

difference_nonzero : {x y : Float} → Coordinate x → Coordinate y → eq x y ≡ false → NonZero (y ⊖ x)
difference_nonzero {x} {y} a b h = apart x y 65536 65536 a.fit b.fit a.size b.size h

epsilon_size : Size 1 epsilon
unfolding of_bits
epsilon_size = lit≤ tt

axis_sized : (step p q : Float) → Size 65536 p → Size 65536 q → Size 1 ((q ⊖ p) ⊘ step) → Sized (axis_from step p q)
unfolding axis_from min_of max_of
axis_sized step p q h k l = record {
  start_size = h;
  slope_size = l;
  low_size = sub_size 65536 1 (min_of p q) epsilon (cond_both (Size 65536) (is_nan p || lt q p) p q h k) epsilon_size (lit≤ tt);
  high_size = add_size 65536 1 (max_of p q) epsilon (cond_both (Size 65536) (is_nan p || lt p q) p q h k) epsilon_size (lit≤ tt);
}

module _ {p q : Vec2} (w : Accepted p q) where
  slopes_of : Slopes ((q.x ⊖ p.x) ⊘ step_of p q) ((q.y ⊖ p.y) ⊘ step_of p q)
  unfolding step_of
  slopes_of = slopes (q.x ⊖ p.x) (q.y ⊖ p.y) 131072 131072 (difference_size w.ends.x0 w.ends.x1) (difference_size w.ends.y0 w.ends.y1) nonzero
    where
      nonzero : NonZero (q.x ⊖ p.x) ⊎ NonZero (q.y ⊖ p.y)
      nonzero = elim w.differ [ inl h ↦ inl (difference_nonzero w.ends.x0 w.ends.x1 h) | inr h ↦ inr (difference_nonzero w.ends.y0 w.ends.y1 h) ]

  -- neither difference is more than 131,072 in size, and so nor is the larger one
  pub step_size : Size 131072 (step_of p q)
  unfolding step_of max_of
  step_size =
      let x = abs_of (q.x ⊖ p.x) in
      let y = abs_of (q.y ⊖ p.y) in
      cond_both (Size 131072) (is_nan x || lt x y) x y
      (abs_size 131072 (q.x ⊖ p.x) (difference_size w.ends.x0 w.ends.x1))
      (abs_size 131072 (q.y ⊖ p.y) (difference_size w.ends.y0 w.ends.y1))

  pub sized_x : Sized (along_x p q)
  sized_x = axis_sized (step_of p q) p.x q.x w.ends.x0.size w.ends.x1.size slopes_of.first_size

  pub sized_y : Sized (along_y p q)
  sized_y = axis_sized (step_of p q) p.y q.y w.ends.y0.size w.ends.y1.size slopes_of.second_size

  pub major : Major (along_x p q) ⊎ Major (along_y p q)
  unfolding axis_from
  major = slopes_of.major

  pub stroke_stops : Stops (along_x p q) (along_y p q)
  stroke_stops = stops (along_x p q) (along_y p q) (outside sized_x sized_y major)
