pub mod Back
pub mod Groups
pub mod OneOutcome
pub mod Packed
pub mod Stages
pub mod Windows
