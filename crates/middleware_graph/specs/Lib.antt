pub mod Graph
pub mod States
pub mod Tables
pub mod Visits
