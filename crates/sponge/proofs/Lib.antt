pub mod Absorb
pub mod Lanes
pub mod Laws
pub mod OneOutcome
pub mod Padding
pub mod Parts
pub mod Squeeze
pub mod Words
