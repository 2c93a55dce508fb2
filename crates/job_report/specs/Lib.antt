pub mod Words
pub mod Lines
pub mod JobScript
pub mod Report
pub mod Worked
pub mod Promises
