pub mod Ink
pub mod Promise
