pub mod Lines
pub mod Replies
pub mod Scans
pub mod Views
