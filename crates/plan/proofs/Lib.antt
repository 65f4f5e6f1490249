pub mod Accepted
pub mod Injective
pub mod Own
