pub mod Schedule
pub mod Turn
pub mod Reduced
pub mod Laws
pub mod Choice
pub mod Progress
pub mod Counted
