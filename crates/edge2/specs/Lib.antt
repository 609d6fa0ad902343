pub use Rattle.edge2_measure.specs.Measure
pub use Rattle.edge2_nearest.specs.Nearest
pub use Rattle.edge2_inside.specs.Inside
