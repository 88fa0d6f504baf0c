pub mod Line
pub mod Trials
