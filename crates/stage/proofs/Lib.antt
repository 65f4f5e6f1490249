pub mod Room
pub mod Turn
