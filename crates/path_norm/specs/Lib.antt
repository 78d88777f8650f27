pub mod Escapes
pub mod Asked
pub mod Dots
pub mod Normal
