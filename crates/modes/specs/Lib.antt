pub mod Modes
pub mod Tables
pub mod InnerEntries
pub mod Trials
