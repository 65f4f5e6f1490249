pub mod Places
pub mod Bytes
