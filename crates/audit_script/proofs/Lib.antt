pub mod Audited
pub mod Walking
