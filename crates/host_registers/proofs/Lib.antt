pub mod RegisterLaws
pub mod TriggerBits
pub mod StatusBits
pub mod AccessLaws
pub mod BackLaws
pub mod HostMade
