pub mod Left
pub mod Wait
