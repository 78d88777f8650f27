pub mod Order
pub mod Growing
pub mod Clashing
pub mod Lists
pub mod Branching
pub mod Reading
