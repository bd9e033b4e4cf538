pub mod Offsets
pub mod Constants
pub mod Laws
pub mod Inverse
pub mod Turned
pub mod Steps
pub mod OneOutcome
