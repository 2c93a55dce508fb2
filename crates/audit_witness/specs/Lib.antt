pub mod Columns
pub mod Inside
pub mod Witnesses
