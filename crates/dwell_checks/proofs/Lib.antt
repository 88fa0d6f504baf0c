pub mod Numbers
pub mod Plans
pub mod Positions
pub mod Turns
pub mod Within
