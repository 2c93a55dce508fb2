pub mod Bits
pub mod Numbers
