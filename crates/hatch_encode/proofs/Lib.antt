pub mod Joined
pub mod Numbers
pub mod Files
pub mod RoundTrip
pub mod Figures
