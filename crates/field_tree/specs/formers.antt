pub mod fields
