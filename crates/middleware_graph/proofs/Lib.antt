pub mod Visiting
pub mod Searching
pub mod Flattening
pub mod Judging
pub mod Sound
