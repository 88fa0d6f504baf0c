pub mod Fields
pub mod Mask
pub mod InnerFields
pub mod Trials
