pub mod Parsed
pub mod Counts
