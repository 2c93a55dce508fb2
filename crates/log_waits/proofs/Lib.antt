pub mod LeftLaws
pub mod WaitLaws
