pub mod Pieces
pub mod Slashes
pub mod Paths
pub mod Laws
