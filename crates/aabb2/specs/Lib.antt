pub use Rattle.aabb2_from.specs.From
pub use Rattle.aabb2_change.specs.Change
pub use Rattle.aabb2_distance.specs.Distance
pub use Rattle.aabb2_raster.specs.Raster
