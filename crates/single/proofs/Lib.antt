pub mod Alpha
pub mod Vector
pub mod Weighing
pub mod OneOutcome
