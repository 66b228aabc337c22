pub mod NumberLaws
pub mod Saving
pub mod Trips
