pub mod Longest
pub mod FallsShort
pub mod Input
pub mod Trials
