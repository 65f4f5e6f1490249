pub mod WideText
pub mod WideCase
pub mod Claims
