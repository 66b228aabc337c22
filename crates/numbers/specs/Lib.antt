pub mod Ascii
pub mod Bits
pub mod Checks
pub mod Computed
pub mod Folds
pub mod Lists
pub mod Words
