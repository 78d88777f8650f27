pub mod Merging
pub mod Providers
pub mod Messages
