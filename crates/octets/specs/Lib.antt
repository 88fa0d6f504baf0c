pub mod Octets
pub mod Layout
pub mod Holds
