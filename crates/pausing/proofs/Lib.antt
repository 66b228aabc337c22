pub mod Depths
pub mod OneBook
pub mod Steps
pub mod Resuming
pub mod Pausing
pub mod Claims
pub mod OneOutcome
pub mod Versions
