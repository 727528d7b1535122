pub mod Bounded
pub mod Collect
pub mod Joins
pub mod Kept
pub mod Layers
pub mod MethodOrder
pub mod Sets
