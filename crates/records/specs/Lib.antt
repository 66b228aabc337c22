pub mod Recording
pub mod Back
pub mod Restored
pub mod Traces
