pub mod Reading
pub mod Found
pub mod Texts
pub mod Networks
pub mod Firsts
