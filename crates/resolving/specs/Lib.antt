pub mod Settled
pub mod Promises
