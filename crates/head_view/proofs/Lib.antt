pub mod LineFeeds
pub mod Values
