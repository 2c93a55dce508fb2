pub mod ValidLaws
pub mod Ranges
pub mod Columns
pub mod Masks
