pub mod Desks
pub mod Issues
pub mod Kept
pub mod Told
