-- A box's edges and corners, and the box scaled about its centre, each operation rounded. Definitions only.
use Rattle.std.specs.Prelude.{List, [], ◌∷◌, ℕ, zero, suc, Float, Result, Ok, Err}
use Rattle.types.specs.declared.shape.Vec3.{Vec3}
use Rattle.types.specs.declared.shape.Aabb3.{Aabb3}
use Rattle.types.specs.declared.refusal.Refusal.{Refusal}
use Rattle.types.specs.declared.refusal.Refusal.TheVariants.{Corner}
use Rattle.float.specs.Rounded.{◌⊕◌, ◌⊖◌, ◌⊗◌, half}
use Rattle.float.specs.Values.{greater_of}
use Rattle.vec3.specs.Values.{vec3}
use Rattle.aabb_3.specs.Inside.{center_of}

-- the lengths of the edges
abbrev pub size_of : Aabb3 → Vec3
size_of b = vec3 (b.max_x ⊖ b.min_x) (b.max_y ⊖ b.min_y) (b.max_z ⊖ b.min_z)

-- the edge times s, and half of that: in the plane the half comes first
abbrev pub reach : Float → Float → Float
reach edge s = edge ⊗ s ⊗ half

abbrev pub scale_of : Aabb3 → Float → Aabb3
scale_of b s =
    let c = center_of b in
    let e = size_of b in
    record {
      min_x = c.x ⊖ reach e.x s;
      min_y = c.y ⊖ reach e.y s;
      min_z = c.z ⊖ reach e.z s;
      max_x = c.x ⊕ reach e.x s;
      max_y = c.y ⊕ reach e.y s;
      max_z = c.z ⊕ reach e.z s;
    }

abbrev pub volume_of : Aabb3 → Float
volume_of b = let e = size_of b in e.x ⊗ e.y ⊗ e.z

-- x where it is above y, else y; and that where it is above z, else z. A NaN is above nothing, and nothing is above it
abbrev pub max_edge_size_of : Aabb3 → Float
max_edge_size_of b = let e = size_of b in greater_of e.z (greater_of e.y e.x)

-- the corners in the order of their numbers: round the face of low z, then round that of high z
abbrev pub corners_of : Aabb3 → List Vec3
corners_of b =
    vec3 b.min_x b.min_y b.min_z
    ∷ vec3 b.max_x b.min_y b.min_z
    ∷ vec3 b.max_x b.max_y b.min_z
    ∷ vec3 b.min_x b.max_y b.min_z
    ∷ vec3 b.min_x b.min_y b.max_z
    ∷ vec3 b.max_x b.min_y b.max_z
    ∷ vec3 b.max_x b.max_y b.max_z
    ∷ vec3 b.min_x b.max_y b.max_z
    ∷ []

-- Corner for a number that no corner has
unfoldable pub corner_at : List Vec3 → ℕ → Result Vec3 Refusal
corner_at [] n = Err Corner
corner_at (p ∷ ps) zero = Ok p
corner_at (p ∷ ps) (suc n) = corner_at ps n

unfoldable pub xyz_from_hex_index_of : Aabb3 → ℕ → Result Vec3 Refusal
xyz_from_hex_index_of b index = corner_at (corners_of b) index
