pub mod Outcomes
pub mod Injective
