pub mod Exchanges
pub mod Forwarding
pub mod Readings
pub mod Replies
