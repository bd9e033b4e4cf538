pub mod Field
pub mod Packing
pub mod ProductTable
pub mod Sums
pub mod Vectors
