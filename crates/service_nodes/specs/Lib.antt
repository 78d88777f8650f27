pub mod Nodes
pub mod Lawful
pub mod Ready
pub mod Graphs
