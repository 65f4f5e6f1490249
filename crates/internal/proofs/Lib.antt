pub mod Codes
pub mod InternalNodes
