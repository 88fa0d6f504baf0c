pub mod Narrow
pub mod Followers
pub mod Regrouped
pub mod Rows
pub mod Surveyed
pub mod Stored
pub mod Nexts
pub mod Walk
