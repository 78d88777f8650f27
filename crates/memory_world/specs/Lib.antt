pub mod Marks
pub mod Records
pub mod Books
pub mod Fetches
pub mod Told
pub mod Logs
pub mod Scripts
