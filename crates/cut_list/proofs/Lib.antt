pub mod Fair
pub mod Stays
