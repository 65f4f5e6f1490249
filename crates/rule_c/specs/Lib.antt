pub mod Reading
pub mod Promises
