pub mod Pass
pub mod Internal
