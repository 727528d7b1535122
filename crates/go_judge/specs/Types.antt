-- Questions about types, over the headers that are known, and the types of those who are asked.
pub mod UnderlyingType
pub mod Heads
pub mod TypeSets
pub mod SetsFit
pub mod TypeIdentity
pub mod Own
pub mod Forms
