pub mod ScriptLaws
pub mod JobRuns
pub mod Lengths
pub mod Worked
pub mod Lent
