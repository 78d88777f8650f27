pub mod Digits
pub mod Numbers
pub mod Networks
pub mod Slashes
