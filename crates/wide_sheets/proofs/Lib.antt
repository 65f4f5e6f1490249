pub mod Splitting
pub mod Readings
pub mod Prints
pub mod Plays
pub mod LentCells
pub mod SevenWide
