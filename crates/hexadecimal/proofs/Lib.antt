pub mod Digits
pub mod Bytes
pub mod RoundTrip
