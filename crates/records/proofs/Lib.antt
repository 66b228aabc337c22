pub mod GivingBack
pub mod StoredBytes
pub mod OwnBytes
pub mod StoreBounds
pub mod Restoring
pub mod Traces
