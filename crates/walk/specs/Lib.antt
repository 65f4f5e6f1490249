pub mod Walk
pub mod Listing
