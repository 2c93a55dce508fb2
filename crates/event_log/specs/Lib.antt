pub mod Log
pub mod Rows
pub mod Validity
pub mod Coverage
