pub mod Kept
pub mod Negation
