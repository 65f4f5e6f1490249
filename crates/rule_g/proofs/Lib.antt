pub mod Kids
pub mod Masking
