pub mod Register
pub mod Entry
pub mod Trigger
pub mod Code
pub mod Status
pub mod Access
pub mod Promises
