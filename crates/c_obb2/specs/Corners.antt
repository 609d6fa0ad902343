-- The points of the corners that C is handed. Definitions only.
use Rattle.std.specs.Prelude.{List, [], ◌∷◌}
use Rattle.types.specs.declared.shape.Vec2.{Vec2}
use Rattle.c_obb2.specs.declared.Corners.{Corners}

abbrev pub points_of : Corners → List Vec2
points_of c = c.p0 ∷ c.p1 ∷ c.p2 ∷ c.p3 ∷ []
