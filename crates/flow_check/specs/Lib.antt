pub mod Results
pub mod Internal
