pub mod Walk
pub mod Stops
pub mod Image
pub mod Steps
