pub mod Schedule
