pub mod Reading
pub mod Storing
pub mod Traps
