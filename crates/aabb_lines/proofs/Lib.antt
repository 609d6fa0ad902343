pub mod Results
pub mod Answer
