pub mod Entries
pub mod Fill
pub mod Lent
pub mod Named
