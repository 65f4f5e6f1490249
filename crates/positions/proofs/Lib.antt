pub mod HasRound
