pub mod Distinct
pub mod Empty
pub mod Few
