pub mod Bits
pub mod Flags
pub mod Sums
pub mod Signed
pub mod Formulas
