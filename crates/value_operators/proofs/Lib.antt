pub mod Walking
pub mod Repeating
pub mod Searching
pub mod Choosing
pub mod Numerals
pub mod Characters
pub mod Replacing
