-- One outcome a node of an expression: the walk over constructs, and what holds of it.
pub mod Walk
pub mod Readings
pub mod Stays
pub mod Exactly
pub mod Walked
