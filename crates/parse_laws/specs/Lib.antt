pub mod Parser
pub mod Language
pub mod Forms
pub mod Loops
pub mod Limits
pub mod Place
