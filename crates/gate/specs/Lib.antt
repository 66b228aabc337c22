pub mod Start
pub mod History
pub mod Guarantee
pub mod GoodPoint
