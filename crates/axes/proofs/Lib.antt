pub mod Disjoint
pub mod Elements
pub mod Ends
pub mod Exchanged
pub mod First
pub mod Ranges
pub mod Reached
pub mod Decided
