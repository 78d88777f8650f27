pub mod Urls
pub mod Only
