pub mod Answers
pub mod OneOutcome
pub mod OneParty
pub mod Shares
pub mod Tapes
