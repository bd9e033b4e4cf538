pub mod Parties
pub mod Stages
pub mod Turns
