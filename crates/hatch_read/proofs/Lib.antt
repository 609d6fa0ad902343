pub mod Loading
pub mod Reading
pub mod Figures
pub mod Named
