pub mod SlotStep
