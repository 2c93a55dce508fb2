pub mod OpcodeLaws
pub mod Bytes
pub mod Reading
pub mod Writing
pub mod Codec
pub mod Clocks
