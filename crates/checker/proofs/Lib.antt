pub mod Routines
pub mod Verdicts
