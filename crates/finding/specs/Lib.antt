pub mod Frames
pub mod Places
