pub mod Listing
pub mod Counting
pub mod Judged
pub mod Linkage
pub mod Numbered
pub mod Rowed
