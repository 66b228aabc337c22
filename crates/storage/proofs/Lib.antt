pub mod ReadLaws
pub mod TrapLaws
mod NothingStored
