pub mod Outside
pub mod Stops
pub mod Axes
pub mod Walking
pub mod Sides
pub mod Images
pub mod Paces
