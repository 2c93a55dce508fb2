pub mod Volts
pub mod Refusals
pub mod Readings
