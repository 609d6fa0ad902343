pub mod Ends
pub mod Quotients
pub mod Narrowed
pub mod Positions
pub mod Exact
pub mod Length
pub mod Laws
pub mod Promised
