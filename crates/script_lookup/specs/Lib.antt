pub mod Rising
pub mod Lookup
pub mod WorkedLists
pub mod Promises
