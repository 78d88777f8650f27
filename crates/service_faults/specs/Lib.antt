pub mod Own
pub mod References
pub mod Faults
pub mod Blocked
pub mod Judgements
