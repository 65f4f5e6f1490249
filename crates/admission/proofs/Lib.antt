pub mod ThreeCover
pub mod Admitted
pub mod Scanned
