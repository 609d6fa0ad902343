pub mod Clip
pub mod Entry
pub mod Inside
pub mod Promise
