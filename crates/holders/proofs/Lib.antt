pub mod Held
pub mod Filling
