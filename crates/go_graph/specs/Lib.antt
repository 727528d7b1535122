pub mod Graph
pub mod Cycles
pub mod Order
pub mod Marks
pub mod Certificate
pub mod OpenEdges
