pub mod Tellings
pub mod Holdings
pub mod Cuttings
pub mod Completions
