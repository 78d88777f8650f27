pub mod Nodes
pub mod Meaning
pub mod Built
pub mod Leads
