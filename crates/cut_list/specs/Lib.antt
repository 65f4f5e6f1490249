pub mod List
pub mod Stays
