-- A walk's steps one by one, and how large they are. Definitions only.
use Rattle.std.specs.Prelude.{◌≡◌, true}
use Rattle.std.specs.Float.{binary32}
use Rattle.std.specs.Float.Ieee.{fits}
use Rattle.types.specs.declared.shape.Vec2.{Vec2}
use Rattle.float.specs.Rounded.{◌⊕◌}
use Rattle.rounded.specs.Size.{Size}
use Rattle.stroke.specs.declared.axis.Axis.{Axis}
use Rattle.stroke.specs.Stops.{Stops}

-- where a walk starts
abbrev pub first : Axis → Axis → Vec2
first a b = record { x = a.start; y = b.start }

-- one step after p
abbrev pub next : Axis → Axis → Vec2 → Vec2
next a b p = record { x = p.x ⊕ a.slope; y = p.y ⊕ b.slope }

-- An axis of an accepted stroke: it starts at a coordinate of at most 65,536 in size, and steps by one at most. The ends of its range are
-- at most 65,537 in size.
pub record Sized (a : Axis) : Type 0 where
  pub start_size : Size 65536 a.start
  pub slope_size : Size 1 a.slope
  pub low_size : Size 65537 a.low
  pub high_size : Size 65537 a.high

-- two axes as an accepted stroke has them
pub record Paced (a b : Axis) : Type 0 where
  pub x_sized : Sized a
  pub y_sized : Sized b
  pub x_fits : fits binary32 a.start ≡ true
  pub y_fits : fits binary32 b.start ≡ true
  pub stops : Stops a b
