-- The positions inside an image. Definitions only.
use Rattle.std.specs.Prelude.{Bool, true, false, ◌&&◌, ℕ, pos, Float}
use Rattle.std.specs.Float.{binary32}
use Rattle.std.specs.Float.Ieee.{lt, le, of_int}
use Rattle.types.specs.declared.shape.Vec2.{Vec2}
use Rattle.float.specs.Rounded.{+0}

-- a coordinate on a side of this length: at least 0 and below it
unfoldable pub on_side_of : Float → Float → Bool
on_side_of side x = le +0 x && lt x side

-- in an image whose sides are the floats `wide` and `high`
unfoldable pub in_sides_of : Float → Float → Vec2 → Bool
in_sides_of wide high p = on_side_of wide p.x && on_side_of high p.y

-- in an image w by h
abbrev pub on_image : ℕ → ℕ → Vec2 → Bool
on_image w h p = in_sides_of (of_int binary32 (pos w)) (of_int binary32 (pos h)) p

-- 1 if so, and else 0
abbrev pub one_if_of : Bool → ℕ
one_if_of true = 1
one_if_of false = 0
