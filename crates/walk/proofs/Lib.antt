pub mod Carried
pub mod Numbers
pub mod Steps
pub mod Whole
pub mod Reading
