pub mod Settings
pub mod Faults
pub mod Rows
pub mod Winner
pub mod Orders
pub mod Steps
