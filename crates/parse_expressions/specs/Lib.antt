pub mod Forms
pub mod Reading
pub mod TypeReading
pub mod Targets
pub mod TargetReading
pub mod Splits
pub mod Code
