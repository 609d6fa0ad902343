pub mod Integral
pub mod Promise
pub mod Values
