pub mod Leaving
pub mod Digits
pub mod Inside
pub mod Runs
pub mod First
pub mod Reading
pub mod States
pub mod OneReading
