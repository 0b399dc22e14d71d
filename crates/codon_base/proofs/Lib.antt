pub mod Floors
pub mod Wraps
pub mod Shifts
pub mod Remainders
pub mod CellLaws
pub mod Writing
pub mod NeverLent
