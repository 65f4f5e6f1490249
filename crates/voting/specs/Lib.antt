pub mod Worth
pub mod Tables
