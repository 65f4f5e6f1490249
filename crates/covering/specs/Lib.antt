pub mod Cover
pub mod Pairs
pub mod Triples
