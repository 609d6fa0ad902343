pub mod Added
pub mod Merges
pub mod Chains
pub mod Chunks
pub mod Storing
pub mod Assembled
pub mod Files
pub mod MergeLaws
