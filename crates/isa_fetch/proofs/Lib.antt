pub mod Marks
pub mod Places
pub mod Numbers
pub mod FetchLaws
