pub mod Built
pub mod Names
pub mod Emitted
pub mod Compiled
