pub mod Printing
pub mod InnerPut
pub mod Trials
