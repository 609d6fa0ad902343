pub mod Check
pub mod Answer
