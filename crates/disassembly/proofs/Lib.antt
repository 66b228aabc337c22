pub mod Placing
pub mod Sizes
pub mod Targets
