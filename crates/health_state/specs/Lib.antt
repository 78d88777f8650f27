pub mod Marks
pub mod Health
