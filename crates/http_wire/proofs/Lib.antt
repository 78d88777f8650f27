pub mod Codings
pub mod Contents
pub mod Edited
pub mod Heads
pub mod Laid
pub mod Options
pub mod Spelled
