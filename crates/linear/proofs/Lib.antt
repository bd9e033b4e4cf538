pub mod Added
pub mod OneOutcome
pub mod Pairs
pub mod Shares
pub mod Sides
