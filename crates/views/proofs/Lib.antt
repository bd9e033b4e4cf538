pub mod Absorbing
pub mod Entries
pub mod OneOutcome
pub mod Sums
