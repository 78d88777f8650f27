pub mod Commands
pub mod Cuts
pub mod Names
pub mod Values
pub mod Words
pub mod Pieces
