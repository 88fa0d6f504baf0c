pub mod Places
pub mod Headed
pub mod Leads
pub mod Runs
pub mod Gathered
