pub mod First
pub mod Filled
pub mod Places
pub mod Counts
pub mod Demands
pub mod Trials
pub mod Names
pub mod Pieces
