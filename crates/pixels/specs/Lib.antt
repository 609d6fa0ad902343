pub mod Entries
pub mod Answer
pub mod Promise
pub mod Limit
pub mod Post
