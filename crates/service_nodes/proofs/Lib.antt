pub mod Making
pub mod Numbered
pub mod Limits
pub mod Whole
pub mod Names
