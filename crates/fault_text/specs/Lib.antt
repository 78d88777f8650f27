pub mod Files
pub mod Routers
