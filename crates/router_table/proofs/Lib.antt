pub mod Judged
pub mod Listed
pub mod Ordered
pub mod Won
pub mod Alone
