pub mod Merged
pub mod IsMerge
pub mod Records
pub mod Refusal
pub mod Merge
pub mod Promise
pub mod Parts
pub mod Chains
