pub mod Holding
pub mod RoutineSums
pub mod TurnLists
pub mod Answers
