pub mod Mapped
pub mod Rounds
pub mod Calls
pub mod Lists
pub mod Sessions
