pub mod Links
pub mod Reaching
pub mod Search
pub mod Trees
pub mod Heights
pub mod Numbering
