pub mod Accumulator
pub mod Unary
pub mod BitOperations
pub mod FlagOperations
pub mod Conditions
