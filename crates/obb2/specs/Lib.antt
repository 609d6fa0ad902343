pub use Rattle.obb2_corners.specs.Corners
pub use Rattle.obb2_intersect.specs.Intersect
pub use Rattle.obb2_intersect.specs.Promise
pub use Rattle.obb2_point.specs.Point
