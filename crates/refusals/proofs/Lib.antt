pub mod Lent
pub mod Numbers
pub mod OneOutcome
pub mod Refusals
