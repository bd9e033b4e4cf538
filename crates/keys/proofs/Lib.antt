pub mod Made
pub mod OneOutcome
pub mod Read
