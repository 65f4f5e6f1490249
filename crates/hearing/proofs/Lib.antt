pub mod Sender
pub mod FromSheet
