pub mod Ended
pub mod EverySignature
pub mod Lending
pub mod OneOutcome
