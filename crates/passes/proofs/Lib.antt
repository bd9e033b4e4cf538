pub mod Bounds
pub mod Planting
pub mod Placing
pub mod Committing
pub mod OneOutcome
