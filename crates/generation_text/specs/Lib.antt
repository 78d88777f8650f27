pub mod Texts
pub mod Services
pub mod Generation
pub mod Told
