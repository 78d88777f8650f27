pub mod Runs
pub mod Residuals
pub mod Reaches
pub mod Continuations
pub mod Spelling
