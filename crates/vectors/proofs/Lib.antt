pub mod Spellings
pub mod Trials
