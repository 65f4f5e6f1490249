pub mod Tabled
pub mod Slots
