mod Others
pub mod SlotStepLaws
