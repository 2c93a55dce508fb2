pub mod Ewait
