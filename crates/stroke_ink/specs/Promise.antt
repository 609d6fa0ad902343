-- The contract of `ink`: its value, that it is finite and not below zero, and where it is the stroke's own `length`, or 0. Definitions only.
use Rattle.std.specs.Prelude.{◌≡◌, Bool, true, ◌&&◌, ◌||◌, Float, Result, Ok}
use Rattle.std.specs.Float.Ieee.{lt, le}
use Rattle.std.specs.Float.Ieee.Scale.{finite}
use Rattle.types.specs.declared.shape.Vec2.{Vec2}
use Rattle.types.specs.declared.shape.Aabb2.{Aabb2}
use Rattle.types.specs.declared.refusal.RefusalAt.{RefusalAt}
use Rattle.slabs.specs.declared.Interval.TheVariants.{Miss}
use Rattle.float.specs.Rounded.{+0}
use Rattle.edge2_measure.specs.Measure.{length_of}
use Rattle.aabb.specs.Inside.{is_include_point_of}
use Rattle.stroke_check.specs.Check.{same_ends_of}
use Rattle.stroke_ink.specs.Ink.{clipped_of, ink_of}

-- in one dimension, p and q both lie below `low`, or both above `high`
abbrev pub beyond_one : Float → Float → Float → Float → Bool
beyond_one low high p q = lt p low && lt q low || lt high p && lt high q

-- both points lie beyond one edge of the box
abbrev pub beyond_an_edge : Aabb2 → Vec2 → Vec2 → Bool
beyond_an_edge b p q = beyond_one b.min_x b.max_x p.x q.x || beyond_one b.min_y b.max_y p.y q.y

-- what is said of the ink x of the stroke from p to q in the box b
pub record Inked (p q : Vec2) (b : Aabb2) (x : Float) : Type 0 where
  -- it is finite and not below zero
  pub is_finite : finite x ≡ true
  pub not_negative : le +0 x ≡ true
  -- with both ends in the box, edges included, it is the stroke's own length
  pub whole : is_include_point_of b p ≡ true → is_include_point_of b q ≡ true → x ≡ length_of p q
  -- it is 0 where the line misses the box, where both ends lie beyond one edge of it, and where the ends are equal
  pub missed : clipped_of p q b ≡ Miss → x ≡ +0
  pub outside : beyond_an_edge b p q ≡ true → x ≡ +0
  pub no_length : same_ends_of p q ≡ true → x ≡ +0

-- for the stroke from p to q and the box b: r is what the call returns
pub record InkPromise (p q : Vec2) (b : Aabb2) (r : Result Float RefusalAt) : Type 0 where
  pub answers : r ≡ ink_of p q b
  pub inked : (x : Float) → r ≡ Ok x → Inked p q b x
