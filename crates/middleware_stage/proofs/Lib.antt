pub mod Escapes
pub mod Lawful
pub mod Ranges
pub mod Rewrites
pub mod Urls
