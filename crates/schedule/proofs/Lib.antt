pub mod Levels
pub mod Steps
