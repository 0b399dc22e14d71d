pub mod Parts
pub mod Nodes
pub mod Heights
pub mod Bare
pub mod Prelude
pub mod Names
