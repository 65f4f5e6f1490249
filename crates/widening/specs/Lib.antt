pub mod Widening
pub mod Claims
