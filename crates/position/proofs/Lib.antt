pub mod Size
pub mod Sums
pub mod Range
pub mod Rounding
pub mod Longitudes
pub mod Trials
