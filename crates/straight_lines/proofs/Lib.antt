pub mod Numbered
pub mod UnbuiltSums
pub mod UnbuiltStatements
pub mod Meanings
pub mod Sums
pub mod Statements
pub mod Programs
