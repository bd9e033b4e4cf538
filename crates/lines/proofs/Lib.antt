pub mod OneOutcome
pub mod Rule
pub mod Sizes
