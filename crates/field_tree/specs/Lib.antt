pub mod formers
pub mod Table
pub mod Trees
pub mod Texts
pub mod Values
pub mod Durations
pub mod Keys
pub mod Times
