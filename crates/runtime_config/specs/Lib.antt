pub mod Usable
pub mod Linked
pub mod Runtime
pub mod Running
