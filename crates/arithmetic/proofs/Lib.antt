pub mod BitLaws
pub mod Kept
pub mod Manual
pub mod Orders
pub mod Overflow
pub mod SumLaws
