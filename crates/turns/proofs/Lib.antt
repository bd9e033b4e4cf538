pub mod Answering
pub mod Leaves
pub mod OneOutcome
pub mod Opening
pub mod Reading
pub mod Sizes
pub mod Turning
