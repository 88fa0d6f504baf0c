pub mod Vectors
pub mod Trials
