pub mod Numbers
pub mod Keeps
pub mod Counts
pub mod Timelines
