pub mod Step
pub mod Run
pub mod Cycles
pub mod Changes
pub mod Internal
pub mod Refusing
