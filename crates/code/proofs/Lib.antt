pub mod Allowed
pub mod Sets
pub mod Tables
pub mod Parts
pub mod Starts
pub mod StartList
pub mod Instructions
pub mod Remaining
