pub mod Opcode
pub mod Wait
pub mod Answers
pub mod Reader
pub mod Writer
pub mod Codec
