pub mod Bytes
pub mod Grammar
pub mod Reading
pub mod Feeding
pub mod Writing
pub mod Laws
