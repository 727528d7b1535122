-- what inner functions promise each other
pub mod ConstraintParts
pub mod EmbeddedSearch
pub mod EmbeddedShapes
pub mod EmbeddingParts
pub mod Methods
pub mod Firsts
pub mod Conflicts
pub mod Owed
pub mod Answers
pub mod Read
