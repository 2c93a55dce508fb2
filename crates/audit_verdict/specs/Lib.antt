pub mod Auditor
pub mod Numbers
pub mod Start
pub mod Demand3
pub mod Witness
pub mod Starred
pub mod WorkedLogs
