pub mod Loads
pub mod Shelf
