pub mod Flags
pub mod Marking
pub mod Healths
