pub mod Numbering
pub mod Leading
pub mod Led
pub mod Targets
