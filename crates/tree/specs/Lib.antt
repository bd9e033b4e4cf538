pub mod Tree
pub mod Spread
