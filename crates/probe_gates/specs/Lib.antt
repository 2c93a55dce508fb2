pub mod Kind
pub mod Voltage
pub mod Refusal
pub mod Reading
pub mod Sampling
