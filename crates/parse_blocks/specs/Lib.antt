pub mod Gather
pub mod Blocks
pub mod Functions
pub mod Sources
pub mod Answers
pub mod Whole
pub mod Code
