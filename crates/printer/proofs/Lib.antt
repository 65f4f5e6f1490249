pub mod Stores
pub mod BoardLines
