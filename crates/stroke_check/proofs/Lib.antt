pub mod Offenders
pub mod Accepted
pub mod Outcomes
