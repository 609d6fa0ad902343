pub mod Lines
pub mod Room
pub mod Prefix
pub mod Example
