pub mod ByKey
pub mod FrameSearch
