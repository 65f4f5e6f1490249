pub mod Collect
pub mod Table
pub mod Voted
pub mod Laws
