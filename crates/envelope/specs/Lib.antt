pub mod Bits
pub mod Envelope
