pub mod Keccak
pub mod Walk
pub mod Lanes
