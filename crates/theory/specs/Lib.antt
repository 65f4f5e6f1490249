pub mod Tree
pub mod Runs
