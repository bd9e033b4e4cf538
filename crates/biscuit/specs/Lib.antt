pub mod Keys
pub mod Signature
pub mod Sign
pub mod Verify
pub mod Desk
pub mod Room
