pub mod LineLaws
pub mod ScriptLaws
