pub mod Sponge
pub mod Steps
