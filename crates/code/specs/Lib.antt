pub mod Set
pub mod Code
pub mod Depth
pub mod Instructions
pub mod Internal
