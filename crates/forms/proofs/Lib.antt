pub mod Circuit
pub mod Evaluated
pub mod OneOutcome
pub mod Room
pub mod Sampling
