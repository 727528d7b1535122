-- Final types of untyped expressions: of one, what its operands are wanted as, and of all nodes.
pub mod Untyped
pub mod Wanted
pub mod Nodes
