pub mod Shape
pub mod View
pub mod Documents
pub mod Files
