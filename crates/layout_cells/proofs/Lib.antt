pub mod Filling
pub mod LaidOut
