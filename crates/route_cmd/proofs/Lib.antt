pub mod Going
pub mod Nodes
pub mod Parted
pub mod Stopped
