pub mod Run
pub mod SlotRun
pub mod MoreLog
pub mod Pairs
pub mod Registers
pub mod Replay
