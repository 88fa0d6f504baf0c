pub mod Said
pub mod Trials
