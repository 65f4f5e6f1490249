pub mod Places
pub mod Strokes
pub mod Listed
pub mod Due
pub mod Standing
