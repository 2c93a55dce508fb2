pub mod Slot
pub mod Sequencer
