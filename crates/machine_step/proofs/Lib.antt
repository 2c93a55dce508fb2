mod Taken
pub mod StepLaws
pub mod TakenSlotSteps
