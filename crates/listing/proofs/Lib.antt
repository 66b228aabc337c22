pub mod Appending
pub mod Digits
pub mod LongInput
pub mod Placing
pub mod Sizes
pub mod Texts
