pub mod MarkLemmas
pub mod Fresh
pub mod Did
pub mod Lines
pub mod Kept
