pub mod Folds
pub mod MinMax
pub mod Rounded
pub mod Units
pub mod Values
