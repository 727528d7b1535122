-- Operators: what they see of operands, and each of them.
pub mod Rules
pub mod Sorts
pub mod Representable
pub mod Matching
pub mod Constants
pub mod Operations
pub mod Comparisons
pub mod Shifts
pub mod Binary
pub mod Unary
pub mod Pointers
pub mod Channels
pub mod Nodes
pub mod Honest
