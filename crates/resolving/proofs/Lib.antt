pub mod Under
pub mod Settled
pub mod Cells
mod Resolved
pub mod Steps
