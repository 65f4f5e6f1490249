pub mod Places
pub mod WholeSheet
pub mod Accepted
