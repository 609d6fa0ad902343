pub use Rattle.obb3_corners.specs.Corners
pub use Rattle.obb3_intersect.specs.Intersect
pub use Rattle.obb3_intersect.specs.Promise
pub use Rattle.obb3_point.specs.Point
