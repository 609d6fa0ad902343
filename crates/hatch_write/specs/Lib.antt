pub mod Write
pub mod Saved
