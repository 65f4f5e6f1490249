pub mod AnyOrder
pub mod Hearing
pub mod Local
pub mod Reached
pub mod PartHeard
pub mod Synchronous
