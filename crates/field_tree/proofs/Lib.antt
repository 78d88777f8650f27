pub mod Tables
pub mod Digits
pub mod Parts
pub mod Folds
pub mod Times
