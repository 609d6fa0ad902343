pub mod Nowhere
pub mod Parts
pub mod Promised
