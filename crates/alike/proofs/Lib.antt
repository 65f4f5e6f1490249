pub mod Trees
pub mod Detections
pub mod Boards
pub mod Sessions
pub mod Sheets
