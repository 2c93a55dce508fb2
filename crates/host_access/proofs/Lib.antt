pub mod Outcomes
pub mod Uploads
