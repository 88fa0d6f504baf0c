pub mod Hrr
pub mod InnerScatterers
pub mod Trials
