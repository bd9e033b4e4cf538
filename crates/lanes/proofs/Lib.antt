pub mod Bytes
pub mod Laws
pub mod OneOutcome
pub mod Products
