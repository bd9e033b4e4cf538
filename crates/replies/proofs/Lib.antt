pub mod Values
pub mod Signed
pub mod Lending
pub mod Pairing
pub mod Answering
pub mod Hiding
pub mod Expanded
pub mod OneOutcome
