pub mod Chosens
pub mod Hosts
pub mod Joins
pub mod ListenRows
mod Cuttings
pub mod Makings
