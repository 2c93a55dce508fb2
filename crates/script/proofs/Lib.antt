pub mod Scripts
pub mod RangeLaws
