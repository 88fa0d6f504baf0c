pub mod Trials
pub mod Falls
pub mod Laid
pub mod Inputs
pub mod Front
pub mod Decimals
