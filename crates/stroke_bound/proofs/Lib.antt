pub mod Units
pub mod UpTo
pub mod Left
pub mod Cut
pub mod Rise
pub mod Far
pub mod Positions
