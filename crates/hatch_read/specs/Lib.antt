pub mod Read
pub mod Record
pub mod Accepted
