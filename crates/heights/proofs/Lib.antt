pub mod Heights
pub mod Largest
