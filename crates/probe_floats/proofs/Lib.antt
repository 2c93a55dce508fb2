pub mod Comparison
pub mod Patterns
