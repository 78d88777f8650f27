pub mod Services
pub mod Requests
pub mod Output
pub mod Parts
