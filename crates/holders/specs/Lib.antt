pub mod Holders
pub mod Filling
