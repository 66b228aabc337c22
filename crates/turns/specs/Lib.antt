pub mod Turn
pub mod Values
pub mod Internal
