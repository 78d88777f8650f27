pub mod Events
pub mod Parts
pub mod Prompt
pub mod Reached
pub mod Relays
