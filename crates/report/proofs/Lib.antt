pub mod Clips
pub mod Digits
pub mod EveryClip
pub mod Lines
pub mod OneOutcome
pub mod Outcomes
pub mod SignedClips
