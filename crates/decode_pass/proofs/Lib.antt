pub mod Callees
pub mod DecodePass
