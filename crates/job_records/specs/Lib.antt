pub mod Number
pub mod Records
pub mod Kinds
pub mod Job
pub mod Refusals
pub mod Started
pub mod Reader
pub mod Inside
