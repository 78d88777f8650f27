pub mod Hosts
pub mod Services
