pub mod Names
pub mod Notation
pub mod Writing
