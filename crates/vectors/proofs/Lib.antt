pub mod Elements
pub mod Writing
pub mod Laying
pub mod OneOutcome
