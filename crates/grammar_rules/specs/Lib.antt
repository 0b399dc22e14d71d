pub mod Words
pub mod Levels
pub mod Types
pub mod Expressions
pub mod Simple
pub mod Statements
pub mod Modules
pub mod Refusals
