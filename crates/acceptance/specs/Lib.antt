pub mod Cells
pub mod Passed
pub mod Starts
pub mod Exploration
pub mod Check
