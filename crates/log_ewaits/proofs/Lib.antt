pub mod FirstRow
pub mod EwaitLaws
