pub use Rattle.aabb3_from.specs.From
pub use Rattle.aabb3_measure.specs.Measure
pub use Rattle.aabb3_touch.specs.Touch
pub use Rattle.aabb3_distance.specs.Distance
pub use Rattle.aabb3_list.specs.Flat
