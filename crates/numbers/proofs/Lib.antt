pub mod Bytes
pub mod Checking
pub mod Comparing
pub mod Computing
pub mod Folding
pub mod Numbering
pub mod Shifting
pub mod WordLaws
