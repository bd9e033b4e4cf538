pub mod Lists
pub mod Outcome
pub mod Sections
