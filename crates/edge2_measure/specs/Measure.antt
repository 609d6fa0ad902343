-- Lengths, directions and positions along an edge, each operation rounded. Definitions only.
use Rattle.std.specs.Prelude.{Bool, not, ◌||◌, Float}
use Rattle.std.specs.Float.Ieee.{lt}
use Rattle.types.specs.declared.shape.Vec2.{Vec2}
use Rattle.float.specs.Rounded.{◌⊕◌, ◌⊖◌, ◌⊗◌, ◌⊘◌, one, epsilon}
use Rattle.float.specs.Values.{min_of, max_of}
use Rattle.root.specs.Root.{sqrt_of}
use Rattle.vec2.specs.Values as vec2

abbrev pub squared_length_of : Vec2 → Vec2 → Float
squared_length_of s e = vec2.squared_length_of (vec2.sub_of s e)

abbrev pub length_of : Vec2 → Vec2 → Float
length_of s e = sqrt_of (squared_length_of s e)

abbrev pub unit_edge_vector_of : Vec2 → Vec2 → Vec2
unit_edge_vector_of s e =
    let d = vec2.sub_of e s in
    let inverse = one ⊘ vec2.length_of d in
    record { x = d.x ⊗ inverse; y = d.y ⊗ inverse }

abbrev pub position_from_ratio_of : Vec2 → Vec2 → Float → Vec2
position_from_ratio_of p0 p1 t = record { x = (one ⊖ t) ⊗ p0.x ⊕ t ⊗ p1.x; y = (one ⊖ t) ⊗ p0.y ⊕ t ⊗ p1.y }

abbrev pub ratio_from_position_of : Vec2 → Vec2 → Vec2 → Float
ratio_from_position_of ps pe q = let v = vec2.sub_of pe ps in vec2.dot_of v q ⊘ vec2.length_of v

-- ---- culling

-- how far apart the numbers a and b are, as the larger less the smaller
abbrev pub spread_of : Float → Float → Float
spread_of a b = max_of a b ⊖ min_of a b

-- how far apart two edges may lie and still count as touching
abbrev pub slack_of : Vec2 → Vec2 → Vec2 → Vec2 → Float
slack_of s0 e0 s1 e1 = (spread_of s0.x e0.x ⊕ spread_of s0.y e0.y ⊕ spread_of s1.x e1.x ⊕ spread_of s1.y e1.y) ⊗ epsilon

-- the range of a and b lies below that of c and d, by more than the slack
abbrev pub below_of : Float → Float → Float → Float → Float → Bool
below_of slack a b c d = lt (max_of a b ⊕ slack) (min_of c d)

-- in no dimension does one edge's range lie below the other's
unfoldable pub culling_intersection_of : Vec2 → Vec2 → Vec2 → Vec2 → Bool
culling_intersection_of s0 e0 s1 e1 =
    let slack = slack_of s0 e0 s1 e1 in
    not
    (below_of slack s1.x e1.x s0.x e0.x
    || below_of slack s0.x e0.x s1.x e1.x
    || below_of slack s1.y e1.y s0.y e0.y
    || below_of slack s0.y e0.y s1.y e1.y)
