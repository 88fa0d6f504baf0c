pub mod Known
pub mod Types
pub mod Pairs
pub mod Counting
pub mod Walking
pub mod Turning
pub mod Gathering
pub mod Packets
