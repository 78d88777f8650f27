pub mod Shares
pub mod Flags
