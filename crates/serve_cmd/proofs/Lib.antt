pub mod Ends
pub mod Meant
pub mod Numbered
pub mod Unused
