pub mod Sheets
pub mod Seeking
pub mod Cases
pub mod Verdicts
pub mod Said
