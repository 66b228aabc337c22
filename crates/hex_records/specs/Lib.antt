pub mod Digits
pub mod Records
pub mod Lines
pub mod Judging
pub mod Internal
