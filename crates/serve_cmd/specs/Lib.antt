pub mod First
pub mod Meanings
pub mod Ran
pub mod Ready
pub mod Stops
pub mod Texts
pub mod Worlds
