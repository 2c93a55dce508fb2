pub mod Script
pub mod Input
