pub mod Bytes
pub mod Decimals
pub mod Memory
