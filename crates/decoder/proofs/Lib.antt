pub mod Operands
pub mod Sizes
pub mod Selected
pub mod Known
