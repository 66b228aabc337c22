pub mod Graph
pub mod Routine
pub mod Outcome
pub mod Exploring
pub mod Measuring
pub mod Refusing
