pub mod Empty
pub mod Number2
pub mod Sheets
