-- which expressions and types stand in a node
pub mod Operands
