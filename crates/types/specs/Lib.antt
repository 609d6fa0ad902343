pub mod Aabb2
pub mod Aabb3
pub mod Answer
pub mod Range
pub mod Refusal
pub mod Side
pub mod Vec2
pub mod Vec3
