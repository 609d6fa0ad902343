-- A box's size, and boxes moved, scaled and transformed, each operation rounded. Definitions only.
use Rattle.std.specs.Prelude.{true, false, List, [], ◌∷◌, Float, Option, None, Some, Result, Ok, Err}
use Rattle.std.specs.Float.{inf}
use Rattle.std.specs.Float.Ieee.{neg}
use Rattle.types.specs.Answer.{result_and_then}
use Rattle.types.specs.declared.shape.Range.{Range}
use Rattle.types.specs.declared.shape.Vec2.{Vec2}
use Rattle.types.specs.declared.shape.Aabb2.{Aabb2}
use Rattle.types.specs.declared.shape.Mat3.{Mat3}
use Rattle.types.specs.Range.{length_of}
use Rattle.types.specs.Aabb2.{x_range_of, y_range_of}
use Rattle.types.specs.declared.refusal.Refusal.{Refusal}
use Rattle.types.specs.declared.refusal.Refusal.TheVariants.{NoImage}
use Rattle.float.specs.Rounded.{◌⊕◌, ◌⊖◌, ◌⊗◌, ◌⊘◌, +0, half, one}
use Rattle.float.specs.Values.{max_of}
use Rattle.mat3.specs.Values as mat3
use Rattle.aabb2_from.specs.From.{from_two_aabbs_of}
use Rattle.aabb.specs.Inside.{center_of}

abbrev pub max_edge_size_of : Aabb2 → Float
max_edge_size_of b = max_of (length_of (x_range_of b)) (length_of (y_range_of b))

-- ---- the box around the images of the corners

abbrev pub corner : Float → Float → Vec2
corner x y = record { x = x; y = y }

-- the Rust's order: both low, low x and high y, high x and low y, both high
abbrev pub corners_of : Aabb2 → List Vec2
corners_of b =
    corner b.min_x b.min_y
    ∷ corner b.min_x b.max_y
    ∷ corner b.max_x b.min_y
    ∷ corner b.max_x b.max_y
    ∷ []

-- the box of no points, and that of one
abbrev pub no_points_of : Aabb2
no_points_of = record { min_x = inf false; min_y = inf false; max_x = inf true; max_y = inf true }

abbrev pub point_of : Vec2 → Aabb2
point_of p = record { min_x = p.x; min_y = p.y; max_x = p.x; max_y = p.y }

-- a box widened to hold an image, in which a NaN drops out; NoImage where a corner has no image
unfoldable pub with_image_of : Aabb2 → Option Vec2 → Result Aabb2 Refusal
with_image_of b None = Err NoImage
with_image_of b (Some p) = Ok (from_two_aabbs_of b (point_of p))

-- widened by the images of the points in turn, up to the first that has none
unfoldable pub with_images : Mat3 → Aabb2 → List Vec2 → Result Aabb2 Refusal
with_images m b [] = Ok b
with_images m b (p ∷ ps) = result_and_then (λ wider. with_images m wider ps) (with_image_of b (mat3.transform_homogeneous_of m p))

unfoldable pub transform_homogeneous_of : Aabb2 → Mat3 → Result Aabb2 Refusal
transform_homogeneous_of b m = with_images m no_points_of (corners_of b)

-- ---- moved and scaled

-- a = 1 / size on the diagonal, and the translation that takes the centre to one half
abbrev pub to_transformation_world2unit_ortho_preserve_asp_of : Aabb2 → Mat3
to_transformation_world2unit_ortho_preserve_asp_of b =
    let a = one ⊘ max_edge_size_of b in
    let c = center_of b in
    record {
      m00 = a;
      m10 = +0;
      m20 = +0;
      m01 = +0;
      m11 = a;
      m21 = +0;
      m02 = neg a ⊗ c.x ⊕ half;
      m12 = neg a ⊗ c.y ⊕ half;
      m22 = one;
    }

-- half the length of a range, times s
abbrev pub reach : Range → Float → Float
reach r s = length_of r ⊗ half ⊗ s

abbrev pub scale_of : Aabb2 → Float → Aabb2
scale_of b s =
    let c = center_of b in
    let dx = reach (x_range_of b) s in
    let dy = reach (y_range_of b) s in
    record { min_x = c.x ⊖ dx; min_y = c.y ⊖ dy; max_x = c.x ⊕ dx; max_y = c.y ⊕ dy }

abbrev pub translate_of : Aabb2 → Vec2 → Aabb2
translate_of b t =
    record { min_x = b.min_x ⊕ t.x; min_y = b.min_y ⊕ t.y; max_x = b.max_x ⊕ t.x; max_y = b.max_y ⊕ t.y }
