pub mod Counting
pub mod Expanding
pub mod Hashing
pub mod OneOutcome
