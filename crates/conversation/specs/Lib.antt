pub mod Plans
pub mod Steps
pub mod Asks
pub mod Turns
pub mod Served
pub mod Holding
pub mod Complete
