pub mod Clipped
pub mod Entry
pub mod Promise
