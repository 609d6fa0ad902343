pub mod Laws
pub mod Decimal
pub mod Hex
