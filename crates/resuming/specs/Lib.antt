pub mod Good
pub mod Resuming
pub mod Values
pub mod Internal
