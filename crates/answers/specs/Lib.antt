pub mod Answers
pub mod Passes
