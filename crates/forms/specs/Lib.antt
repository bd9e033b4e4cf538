pub mod Circuit
pub mod Room
pub mod Sampling
