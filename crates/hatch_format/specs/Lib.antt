pub mod Bytes
pub mod Format
pub mod Decode
pub mod HatchList
