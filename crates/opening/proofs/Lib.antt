pub mod Showing
pub mod Turning
pub mod Signed
pub mod OneOutcome
