pub mod Left
pub mod Ahead
pub mod Remaining
pub mod EachStep
pub mod Finishing
pub mod Started
pub mod Reported
pub mod Sample
