pub mod Cover
pub mod Pairs
pub mod Together
pub mod Place
