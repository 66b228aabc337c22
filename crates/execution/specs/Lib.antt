pub mod Operands
pub mod Computing
pub mod Performing
pub mod Cycles
pub mod Internal
