pub mod Intersect
pub mod Promise
