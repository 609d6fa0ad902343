-- The laws behind rounding to whole numbers. `Standard` has the theorems that floor and ceiling are IEEE 754's.
pub mod Sizes
pub mod Shift
pub mod Whole
pub mod Ends
mod Integers
pub mod Standard
