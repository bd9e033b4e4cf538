pub mod Marks
pub mod Sums
pub mod Stored
pub mod OneOutcome
