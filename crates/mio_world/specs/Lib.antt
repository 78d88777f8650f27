pub mod Slots
pub mod Tables
pub mod Fits
pub mod Notes
pub mod Addresses
pub mod Worlds
