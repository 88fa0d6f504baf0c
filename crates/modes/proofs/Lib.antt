pub mod Every
pub mod Tables
pub mod Lookups
pub mod Trials
