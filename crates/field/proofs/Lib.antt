pub mod Laws
pub mod OneOutcome
pub mod PackedSums
pub mod Packing
pub mod ProductTable
pub mod Stray
pub mod Sums
pub mod Vectors
