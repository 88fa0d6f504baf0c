pub mod Stores
pub mod Copied
