pub mod Digits
pub mod Lines
pub mod Signs
pub mod Records
pub mod Trials
