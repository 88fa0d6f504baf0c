pub mod Targets
pub mod Dwells
