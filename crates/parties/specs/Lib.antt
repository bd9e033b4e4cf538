pub mod Parties
pub mod Repetition
