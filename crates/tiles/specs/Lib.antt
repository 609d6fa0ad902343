pub mod Sheet
pub mod Cover
pub mod Tiles
pub mod Answer
pub mod Promise
pub mod Rust
