pub mod Places
pub mod Did
