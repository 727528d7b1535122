-- The grammar as tables, and the nodes that they open.
pub mod Lines
pub mod Shapes
pub mod Sizes
pub mod KindSets
pub mod Leads
pub mod Opened
pub mod TypeParts
