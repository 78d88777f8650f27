pub mod Mirrors
pub mod Drawn
