pub mod Growing
pub mod Separating
