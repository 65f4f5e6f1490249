pub mod Lists
pub mod Claims
pub mod Printed
