pub mod Codes
pub mod SoundSigns
pub mod SoundAtoms
pub mod Sound
pub mod CompleteSigns
pub mod CompleteSteps
pub mod CompleteParts
pub mod Complete
