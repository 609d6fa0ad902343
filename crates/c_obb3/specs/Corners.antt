-- The points of the corners that C is handed. Definitions only.
use Rattle.std.specs.Prelude.{List, [], ◌∷◌}
use Rattle.types.specs.declared.shape.Vec3.{Vec3}
use Rattle.c_obb3.specs.declared.Corners3.{Corners3}

abbrev pub points_of : Corners3 → List Vec3
points_of c = c.p0 ∷ c.p1 ∷ c.p2 ∷ c.p3 ∷ c.p4 ∷ c.p5 ∷ c.p6 ∷ c.p7 ∷ []
