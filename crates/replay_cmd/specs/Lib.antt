pub mod Refusals
pub mod Output
pub mod Script
pub mod Configs
pub mod Replays
