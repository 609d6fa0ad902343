pub mod Encode
pub mod RoundTrip
