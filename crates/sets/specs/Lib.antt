pub mod Search
pub mod Tabulate
pub mod Sets
pub mod Structure
pub mod Only
pub mod Bounded
